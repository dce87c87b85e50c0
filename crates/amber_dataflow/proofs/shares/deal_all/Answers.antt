-- One operator more is dealt to.
use Rattle.std.proofs.Common.{◌≡◌, ◌∙◌, ◌<◌, ◌≤◌, ap, sym, get_or, length, [], arith}
use Rattle.std.specs.Prelude.{option_map, unwrap_or}
use Rattle.amber_meaning.specs.Plain.{records_of}
use Rattle.amber_dataflow.proofs.Dealing.{all-dealt, crew-start, dealt-more, header-more, header-right, header-start, next-file, operator-facts}
use Rattle.amber_dataflow.proofs.shares.deal_all.Goals as goal

pub operators-init : goal.operators-init
operators-init g c = record {
  header = header-start c.args.flow.now c.args.files.now;
  all = ap length c.new-shares.ensures.items ∙ sym crew-start;
  dealt = λ k below. absurd (omega (arith, crew-start, below));
}

pub deal_operator-requires-clause-some : goal.deal_operator-requires-clause-some
deal_operator-requires-clause-some g c κs within =
    let inside : c.operators.before < length c.args.flow.now = rw c.get-operators.ensures.operators at c.operators-test.true in
    let o = c.index-operators-before.result in
    let is : o ≡ get_or c.args.flow.now c.operators.before o = rw c.get-operators.ensures.operators at c.index-operators-before.is in
    (operator-facts c.args.flow.now c.operators.before o c.get-operators.ensures.flow inside is).0

pub deal_operator-requires-clause-few : goal.deal_operator-requires-clause-few
deal_operator-requires-clause-few g c κs within =
    let inside : c.operators.before < length c.args.flow.now = rw c.get-operators.ensures.operators at c.operators-test.true in
    let o = c.index-operators-before.result in
    let is : o ≡ get_or c.args.flow.now c.operators.before o = rw c.get-operators.ensures.operators at c.index-operators-before.is in
    (operator-facts c.args.flow.now c.operators.before o c.get-operators.ensures.flow inside is).1

pub deal_operator-requires-clause-columns : goal.deal_operator-requires-clause-columns
deal_operator-requires-clause-columns g c κs within =
    let inside : c.operators.before < length c.args.flow.now = rw c.get-operators.ensures.operators at c.operators-test.true in
    let o = c.index-operators-before.result in
    let is : o ≡ get_or c.args.flow.now c.operators.before o = rw c.get-operators.ensures.operators at c.index-operators-before.is in
    (operator-facts c.args.flow.now c.operators.before o c.get-operators.ensures.flow inside is).2

pub deal_operator-requires-clause-headed : goal.deal_operator-requires-clause-headed
deal_operator-requires-clause-headed g c κs within =
    let inside : c.operators.before < length c.args.flow.now = rw c.get-operators.ensures.operators at c.operators-test.true in
    let o = c.index-operators-before.result in
    let is : o ≡ get_or c.args.flow.now c.operators.before o = rw c.get-operators.ensures.operators at c.index-operators-before.is in
    let file = unwrap_or (option_map (λ one. one.now) c.shared_file_after-file.result) [] in
    header-right c.args.flow.now c.args.files.now c.operators.before o inside is file (next-file _ _ c.shared_file_after-file.ensures) c.operators.invariant.header c.requires.headers

pub operators-preserved : goal.operators-preserved
operators-preserved g c =
    let inside : c.operators.before < length c.args.flow.now = rw c.get-operators.ensures.operators at c.operators-test.true in
    let o = c.index-operators-before.result in
    let is : o ≡ get_or c.args.flow.now c.operators.before o = rw c.get-operators.ensures.operators at c.index-operators-before.is in
    let file = unwrap_or (option_map (λ one. one.now) c.shared_file_after-file.result) [] in
    let more = dealt-more c.args.flow.now c.args.files.now c.operators.before o inside is file (next-file _ _ c.shared_file_after-file.ensures)
    c.operators.shares.items c.deal_operator.new.shares.items c.operators.invariant.all c.in_ok-deal_operator.ensures.all c.in_ok-deal_operator.ensures.before
    c.in_ok-deal_operator.ensures.dealt c.operators.invariant.dealt in
    record {
      header = header-more c.args.flow.now c.args.files.now c.operators.before o inside is file (next-file _ _ c.shared_file_after-file.ensures) c.operators.invariant.header
          (header-right c.args.flow.now c.args.files.now c.operators.before o inside is file (next-file _ _ c.shared_file_after-file.ensures) c.operators.invariant.header c.requires.headers);
      all = more.0;
      dealt = more.1;
    }

pub returns : goal.returns
returns g c =
    let all : length c.args.flow.now ≤ c.operators.before = rw c.get-operators.ensures.operators at c.operators-test.false in
    all-dealt c.args.flow.now (records_of c.args.files.now c.args.flow.now) c.operators.before c.operators.shares.items all c.operators.invariant.all c.operators.invariant.dealt
