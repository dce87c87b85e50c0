-- The records of a file of lines, one by one.
use Rattle.std.proofs.Common.{◌≡◌, ℕ, ◌+◌, List, [], ◌∷◌, ◌++◌, length, map, sym, ap, ◌∙◌, append_assoc}
use Rattle.std.proofs.lemmas.List.{append-nil}
use Rattle.amber_cut.specs.Lines.{cut}
use Rattle.amber_rows.specs.Record.{file_records}
use Rattle.amber_rows.specs.declared.column.Column.{Column}
use Rattle.amber_meaning.specs.declared.answer.Refusal.{Refusal}
use Rattle.amber_plain.specs.declared.chain.Chain.{Chain}
use Rattle.amber_plain.proofs.Records.{Gathers}

abbrev Lines : Type 0
Lines = List (List ℕ)

-- the header and some lines were read, and their records were gathered
pub record IsAtLine (file : List ℕ) (left : Lines) (number : ℕ) (op : ℕ) (columns : List Column) (old new : Chain) (refused : List Refusal) : Type 0 where
  pub header : List (List ℕ)
  pub done : List (List (List ℕ))
  pub read : file_records file ≡ header ∷ (done ++ map cut left)
  pub counted : number ≡ length done + 1
  pub gathers : Gathers op columns done old new refused

pub read-none : (file : List ℕ) (left : Lines) (header : List (List ℕ)) (done : List (List (List ℕ))) → file_records file ≡ header ∷ (done ++ map cut left) → left ≡ [] → file_records file ≡ header ∷ done
read-none file left header done e none = e ∙ ap (λ ls. header ∷ (done ++ map cut ls)) none ∙ ap (λ rs. header ∷ rs) (append-nil done)

pub read-one : (file : List ℕ) (left later : Lines) (line : List ℕ) (header : List (List ℕ)) (done : List (List (List ℕ))) → file_records file ≡ header ∷ (done ++ map cut left) → left ≡ line ∷ later
    → file_records file ≡ header ∷ (done ++ cut line ∷ map cut later)
read-one file left later line header done e one = e ∙ ap (λ ls. header ∷ (done ++ map cut ls)) one

pub read-more : (file : List ℕ) (later : Lines) (line : List ℕ) (header : List (List ℕ)) (done : List (List (List ℕ))) → file_records file ≡ header ∷ (done ++ cut line ∷ map cut later)
    → file_records file ≡ header ∷ ((done ++ cut line ∷ []) ++ map cut later)
read-more file later line header done e = e ∙ ap (λ rs. header ∷ rs) (sym (append_assoc done (cut line ∷ []) (map cut later)))
