-- The scan that was meant: its file has a name that may be one, and each of its columns too.
use Rattle.std.proofs.Common.{◌≡◌, ◌<◌, ◌≤◌, ◌==◌, false, true, List, length, refl, arith}
use Rattle.std.proofs.lemmas.Bool.Decides.{nat_tests}
use Rattle.amber_flow.specs.Operators.{is_file_name, scan_of}
use Rattle.amber_flow.proofs.ReadFacts.{handed_on, refused}
use Rattle.amber_flow.proofs.scan.read_scan.Goals as goal

may_name : {A : Type 0} (file : List A) → false ≡ (length file == 0) → length file ≤ 255 → (0 < length file) × (length file ≤ 255)
may_name file some few = (grind (arith, nat_tests), few)

pub returns : goal.returns
unfolding scan_of
returns c =
    let file = c.in_ok-file.file.now in
    let fits = may_name file c.if-is_empty.ensures c.if-file-gt255.false in
    let is : is_file_name file ≡ true = grind (arith, nat_tests, fits) in
    record {
      parts = rw (← c.in_ok-file.ensures, ← c.in_ok-pairs.ensures, ← c.in_ok-schema.ensures.columns, is, c.in_ok-file-2.ensures);
      kind = λ before. rw (c.in_ok-file-2.ensures) (fits.0, fits.1, c.in_ok-schema.ensures.named);
      sink = refl;
    }

pub returns-in_err-file-clause-parts : goal.returns-in_err-file-clause-parts
unfolding scan_of
returns-in_err-file-clause-parts c = rw (← c.in_err-file.ensures) (refused c.from_residual.result c.in_err-file.field-0.0 c.from_residual.ensures.1)

pub returns-in_err-pairs-clause-parts : goal.returns-in_err-pairs-clause-parts
unfolding scan_of
returns-in_err-pairs-clause-parts c =
    rw (← c.in_ok-file.ensures, ← c.in_err-pairs.ensures) (refused c.from_residual-in_err-pairs.result c.in_err-pairs.field-0.0 c.from_residual-in_err-pairs.ensures.1)

pub returns-in_err-schema-clause-parts : goal.returns-in_err-schema-clause-parts
unfolding scan_of
returns-in_err-schema-clause-parts c =
    rw (← c.in_ok-file.ensures, ← c.in_ok-pairs.ensures)
    (handed_on c.from_residual-in_err-schema.result c.in_err-schema.field-0.0 _ _ c.from_residual-in_err-schema.ensures.1 c.in_err-schema.ensures.columns (λ why is. rw (← is)))
