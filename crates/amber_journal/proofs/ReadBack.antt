-- Reading the whole items of a file is reading the file.
use Rattle.std.proofs.Common.{◌≡◌, ℕ, inl, inr, List, length, take, Result, Ok, Err, refl, sym, ap, ◌∙◌, subst}
use Rattle.std.proofs.Math.Seq.{take-append_seam}
use Rattle.std.specs.Prelude.{IfOk}
use Rattle.amber_log.specs.ReadAs.{IsReadAs, lines_of, read_of, whole_items, whole_lines}
use Rattle.amber_log.specs.ReadLines.{read_lines}
use Rattle.amber_log.specs.TextLaws.{IsFirstBadLine}
use Rattle.amber_log.specs.declared.log.Log.{Log}
use Rattle.amber_log.proofs.BadLines.{fails_at_first_bad_line}
use Rattle.amber_log.proofs.Exact.{reads_what_stands}
use Rattle.amber_log.proofs.Longest.{whole_items_are_longest}
use Rattle.amber_log.proofs.Torn.{lines_of-whole_items}
use Rattle.amber_journal.specs.Answered.{GivesLog, IfText, IsUnlessNoMemory}
use Rattle.amber_journal.specs.declared.read.LogErr.{LogErr}
use Rattle.amber_journal.specs.declared.read.LogErr.TheVariants.{NoMemory, Text}

whole-taken : (bytes : List ℕ) → take (length (whole_items bytes)) bytes ≡ whole_items bytes
whole-taken bytes =
    let longest = whole_items_are_longest bytes in
    ap (λ (b : List ℕ). take (length (whole_items bytes)) b) (sym longest.begins) ∙ take-append_seam (whole_items bytes) longest.rest

-- the lines of what is whole are read
pub read-whole : (bytes : List ℕ) (n : ℕ) → n ≡ length (whole_items bytes) → read_lines (lines_of (take n bytes)) ≡ read_of bytes
unfolding read_of
read-whole bytes n e =
    ap (λ (m : ℕ). read_lines (lines_of (take m bytes))) e
    ∙ ap (λ (b : List ℕ). read_lines (lines_of b)) (whole-taken bytes)
    ∙ ap read_lines (lines_of-whole_items bytes)

-- ---- the answers

pub found : (bytes : List ℕ) (result : Result Log LogErr) → GivesLog result (read_of bytes) → IfOk result (λ log. IsReadAs bytes log)
found bytes (Ok log) e = (reads_what_stands bytes log).0 e
found bytes (Err (Text line)) e = tt
found bytes (Err NoMemory) e = tt

pub bad : (bytes : List ℕ) (result : Result Log LogErr) → GivesLog result (read_of bytes) → IfText result (λ line. IsFirstBadLine (whole_lines (lines_of bytes)) line)
bad bytes (Ok log) e = tt
bad bytes (Err (Text line)) e = (fails_at_first_bad_line bytes line).0 e
bad bytes (Err NoMemory) e = tt

abbrev answer : Result Log ℕ → Result Log LogErr
answer (Ok log) = Ok log
answer (Err line) = Err (Text line)

unless : (result : Result Log LogErr) (read : Result Log ℕ) → GivesLog result read → IsUnlessNoMemory result (answer read)
unless (Ok log) read e = inl (sym (ap answer e))
unless (Err (Text line)) read e = inl (sym (ap answer e))
unless (Err NoMemory) read e = inr refl

pub reads : (bytes : List ℕ) (result : Result Log LogErr) → GivesLog result (read_of bytes) → (log : Log) → IsReadAs bytes log → IsUnlessNoMemory result (Ok log)
reads bytes result e log is =
    subst (λ (r : Result Log ℕ). IsUnlessNoMemory result (answer r)) ((reads_what_stands bytes log).1 is) (unless result (read_of bytes) e)

pub refuses : (bytes : List ℕ) (result : Result Log LogErr) → GivesLog result (read_of bytes) → (line : ℕ) → IsFirstBadLine (whole_lines (lines_of bytes)) line
    → IsUnlessNoMemory result (Err (Text line))
refuses bytes result e line is =
    subst (λ (r : Result Log ℕ). IsUnlessNoMemory result (answer r)) ((fails_at_first_bad_line bytes line).1 is) (unless result (read_of bytes) e)
