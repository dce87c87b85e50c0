-- The shares of a scan are appended to those of the others.
use Rattle.std.proofs.Common.{◌≡◌, ◌++◌, ◌∙◌, [], Some, ap, map, sym, true, false}
use Rattle.std.specs.Prelude.{option_map, unwrap_or}
use Rattle.std.proofs.lemmas.Result.{on_ok_weaker}
use Rattle.amber_rows.specs.Kinds.{is_scan}
use Rattle.amber_dataflow.proofs.Dealing.{dealt-other, dealt-scan, headless}
use Rattle.amber_dataflow.proofs.shares.deal_operator.Goals as goal

pub returns-then-not-is_scan : goal.returns-then-not-is_scan
returns-then-not-is_scan g c =
    let old = c.args.shares.now.items in
    let new = c.push_none.new.shares.items in
    let scan : is_scan c.args.operator.now.what ≡ false = sym c.if-not-is_scan.ensures in
    let file = unwrap_or (option_map (λ one. one.now) c.args.file) [] in
    let done = dealt-other c.args.operator.now file old new in
    record {
      all = on_ok_weaker c.push_none.result (λ is. (done is scan).0) c.push_none.ensures;
      before = on_ok_weaker c.push_none.result (λ is. (done is scan).1) c.push_none.ensures;
      dealt = on_ok_weaker c.push_none.result (λ is. (done is scan).2) c.push_none.ensures;
    }

pub returns : goal.returns
returns g c =
    let old = c.args.shares.now.items in
    let new = c.push_shares.new.shares.items in
    let scan : is_scan c.args.operator.now.what ≡ true = sym c.if-not-is_scan.ensures in
    let shared = c.in_ok-dealt.ensures in
    let each = sym c.in_ok-dealt.dealt.ok.0 ∙ shared.one_each in
    let file : unwrap_or (option_map (λ one. one.now) c.args.file) [] ≡ c.in-Some.file.now = ap (λ o. unwrap_or (option_map (λ one. one.now) o) []) c.in-Some.is in
    let done = λ (is : new ≡ old ++ map Some c.in_ok-dealt.dealt.items).
    dealt-scan c.args.operator.now c.in-Some.file.now old c.in_ok-dealt.dealt.items new is each (λ place d less. shared.shares place d less) shared.columns scan in
    record {
      all = on_ok_weaker c.push_shares.result (λ is. (done is).0) c.push_shares.ensures;
      before = on_ok_weaker c.push_shares.result (λ is. (done is).1) c.push_shares.ensures;
      dealt = rw file (on_ok_weaker c.push_shares.result (λ is. (done is).2) c.push_shares.ensures);
    }

pub unreachable-requires : goal.unreachable-requires
unreachable-requires g c = headless c.args.operator.now.what c.args.operator.now.schema (rw c.in_default.is at c.requires.headed) (sym c.if-not-is_scan.ensures)
