-- A legal log has no illegal line, so a home's log is never refused.
use Rattle.std.proofs.Common.{◌≡◌, ℕ, Option, None, Some, Err, ◌∙◌, sym}
use Rattle.amber_rows.specs.FlowRules.{IsFlow}
use Rattle.amber_log.specs.declared.log.Log.{Log}
use Rattle.amber_lines.specs.Lines.{illegal_line}
use Rattle.amber_lines.proofs.Illegal.{illegal_lines_are_first}
use Rattle.amber_meaning.specs.Laws.{SendersFirst}
use Rattle.amber_meaning.specs.Legal.{IsLegal, Query}
use Rattle.amber_meaning.proofs.Senders.{flows_send_forward}
use Rattle.amber_home.specs.HomeState.{HomeState, query_of}
use Rattle.amber_recover.specs.Recovering.{Recorded, header_in, recorded_query}

pub none-illegal : (query : Query) (log : Log) → SendersFirst query.flow → IsLegal query log → illegal_line query log ≡ None
none-illegal query log senders legal = (illegal_lines_are_first query log senders legal.text).0.1 legal

none-some : {A : Type 0} {x : A} → None ≡ Some x → ⊥
none-some e = cc

-- where what was recorded is what a home has, none of its lines is illegal
pub home-legal : (home : HomeState) (r : Recorded) (line : ℕ) → r.flow ≡ home.flow → r.files ≡ home.files → r.most ≡ home.most → r.log ≡ home.log → IsFlow home.flow
    → IsLegal (query_of home) home.log → (header_in r ≡ None) × (illegal_line (recorded_query r) r.log ≡ Some line) → ⊥
home-legal home r line flow files most log is legal h =
    let all : IsLegal (recorded_query r) r.log = rw (flow, files, most, log) legal in
    let forward : SendersFirst r.flow = rw flow (flows_send_forward home.flow is) in
    none-some (sym (none-illegal (recorded_query r) r.log forward all) ∙ h.1)
