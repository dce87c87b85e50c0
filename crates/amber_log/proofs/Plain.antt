-- The words of a line have no space and no line feed, so that a text parts into its lines and a line into its words.
use Rattle.std.proofs.Common.{◌≡◌, ◌==◌, ℕ, suc, ◌+◌, ◌/◌, ◌%◌, ◌^◌, ◌<◌, ◌&&◌, ◌++◌, Bool, true, false, not, cond, ℤ, pos, negsuc, List, [], ◌∷◌, Some, refl, sym, ap, ◌∙◌, arith, append_assoc, append-nil}
use Rattle.std.specs.Prelude.{codes, decimal, nat_lt, slice_index}
use Rattle.std.specs.Fmt.{signed_decimal}
use Rattle.std.specs.List.{All, join_with_byte, slice_split}
use Rattle.std.proofs.lemmas.Bool.{agree_below_at, and_from, and_parts, eqb-true, lt-ltb, ltb-true, ne_eqb, not-true, not_from_false}
use Rattle.std.proofs.lemmas.Fmt.{decimal_by_steps}
use Rattle.std.proofs.lemmas.List.Elements.{All-cons, All-nil}
use Rattle.std.proofs.lemmas.List.Splits.{slice_split_at, slice_split_none}
use Rattle.hex.specs.Hex.{IsBytes, encode_lower, encode_with, lower_digits}
use Rattle.amber_rows.specs.Number.{fits_i64}
use Rattle.amber_rows.specs.declared.cond.Cmp.{Cmp}
use Rattle.amber_rows.specs.declared.cond.Cmp.TheVariants as cmp
use Rattle.amber_rows.specs.declared.value.Value.{Value}
use Rattle.amber_rows.specs.declared.value.Value.TheVariants as value
use Rattle.amber_log.specs.Commands.{Action, AtRest, Leg, action_of}
use Rattle.amber_log.specs.Effect.{Argument, Condition, Constant, Nothing, Rows, Worker}
use Rattle.amber_log.specs.Grammar.{HasWords, IsArgument, IsConstant, IsEntry, IsLine}
use Rattle.amber_log.specs.LogText.{unlines}
use Rattle.amber_log.specs.ReadAs.{lines_of, onto_line}
use Rattle.amber_log.specs.ReadWords.{line_of, parse}
use Rattle.amber_log.specs.Words.{action_words, argument_words, constant_word, entry_words, sign_of, spell, words_of}
use Rattle.amber_log.specs.declared.command.Command.{Command}
use Rattle.amber_log.specs.declared.entry.Entry.{Entry}
use Rattle.amber_log.specs.declared.entry.Entry.TheVariants as entry
use Rattle.amber_log.specs.declared.leg.Close.TheVariants as close
use Rattle.amber_log.specs.declared.line.Line.{Line}
use Rattle.amber_log.specs.declared.line.Line.TheVariants as line
use Rattle.amber_log.proofs.WordsRead.{line_of-words_of}
use Rattle.amber_log.proofs.Named.{IsNamed, above, command-named}
use Rattle.amber_log.proofs.Utf8Bytes.{IsBytes-utf8}

-- words, at least one, without spaces and line feeds
abbrev pub AreWords : List (List ℕ) → Type 0
AreWords [] = ⊥
AreWords (word ∷ []) = above 32 word ≡ true
AreWords (word ∷ next ∷ words) = (above 32 word ≡ true) × AreWords (next ∷ words)

-- whether no byte is a line feed
abbrev pub has_no_feed : List ℕ → Bool
has_no_feed [] = true
has_no_feed (byte ∷ bytes) = not (byte == 10) && has_no_feed bytes

-- lines without line feeds
abbrev pub AreClean : List (List ℕ) → Type 0
AreClean [] = Unit {0}
AreClean (bytes ∷ lines) = (has_no_feed bytes ≡ true) × AreClean lines

-- ---- the words of a line

above-append : (least : ℕ) (xs ys : List ℕ) → above least xs ≡ true → above least ys ≡ true → above least (xs ++ ys) ≡ true
above-append least [] ys p q = q
above-append least (x ∷ xs) ys p q =
    let parts = and_parts (nat_lt least x) (above least xs) p in
    and_from (nat_lt least x) (above least (xs ++ ys)) parts.0 (above-append least xs ys parts.1 q)

above-decimal : (n : ℕ) → n < 2 ^ 64 → above 32 (decimal n) ≡ true
above-decimal n small =
    decimal_by_steps (λ n ds. above 32 ds ≡ true)
    (λ n lt. and_from (nat_lt 32 (48 + n)) true (lt-ltb 32 (48 + n) (omega arith)) refl)
    (λ n ds ge h. above-append 32 ds ((48 + n % 10) ∷ []) h (and_from (nat_lt 32 (48 + n % 10)) true (lt-ltb 32 (48 + n % 10) (omega arith)) refl))
    n small

above32 : (n : ℕ) → n < 2 ^ 32 → above 32 (decimal n) ≡ true
above32 n below = above-decimal n (omega arith)

above-signed : (n : ℤ) → fits_i64 n ≡ true → above 32 (signed_decimal n) ≡ true
above-signed (pos n) fits = let below : n < 2 ^ 63 = ltb-true n (2 ^ 63) fits in above-decimal n (omega arith)
above-signed (negsuc n) fits = let below : n < 2 ^ 63 = ltb-true n (2 ^ 63) fits in above-decimal (suc n) (omega arith)

above-digit : (digit : ℕ) → digit < 16 → nat_lt 32 (slice_index lower_digits digit) ≡ true
above-digit digit below = agree_below_at (λ d. nat_lt 32 (slice_index lower_digits d)) (λ _. true) 16 digit refl below

above-encode : (text : List ℕ) → IsBytes text → above 32 (encode_lower text) ≡ true
unfolding encode_with
above-encode [] h = refl
above-encode (byte ∷ text) h =
    let fits : byte < 256 = h 0 in
    let high : byte / 16 < 16 = omega arith in
    let low : byte % 16 < 16 = omega arith in
    and_from (nat_lt 32 (slice_index lower_digits (byte / 16))) _ (above-digit (byte / 16) high)
    (and_from (nat_lt 32 (slice_index lower_digits (byte % 16))) _ (above-digit (byte % 16) low) (above-encode text (λ k. h (suc k))))

above-constant : (constant : Value) → IsConstant constant → above 32 (constant_word constant) ≡ true
above-constant (value.Int n) h = above-signed n h
above-constant (value.Text text) h = above-encode text (IsBytes-utf8 text h)

above-sign : (sign : Cmp) → above 32 (sign_of sign) ≡ true
above-sign cmp.Eq = refl
above-sign cmp.Ne = refl
above-sign cmp.Lt = refl
above-sign cmp.Le = refl
above-sign cmp.Gt = refl
above-sign cmp.Ge = refl

AreWords-argument : (argument : Argument) (op : ℕ) → op < 2 ^ 32 → IsArgument argument → AreWords (decimal op ∷ argument_words argument)
AreWords-argument Nothing op small h = above32 op small
AreWords-argument (Rows n) op small h = (above32 op small, above-decimal n h)
AreWords-argument (Worker worker) op small h = (above32 op small, above32 worker h)
AreWords-argument (Constant constant) op small h = (above32 op small, above-constant constant h)
AreWords-argument (Condition test) op small h = (above32 op small, (above32 test.column h.0, (above-sign test.op, above-constant test.constant h.1)))

AreWords-action : (one : Command) (action : Action) → IsNamed one action → HasWords action → AreWords (codes "do" ∷ action_words action)
AreWords-action one (Leg to_end) named h = absurd h
AreWords-action one (AtRest effect) named h = (refl, (named.plain, AreWords-argument effect.argument effect.op h.0 h.1))

AreWords-entry : (one : Entry) → IsEntry one → AreWords (entry_words one)
AreWords-entry (entry.Take sender batch) h = (refl, (above32 sender h.0, above-decimal batch h.1))
AreWords-entry (entry.Go rows outs) h = (refl, (above-decimal rows h.0, above-decimal outs h.1))
AreWords-entry (entry.Grant n) h = (refl, above-decimal n h.1)
AreWords-entry (entry.Back n) h = (refl, above-decimal n h.1)
AreWords-entry entry.Pause h = refl
AreWords-entry entry.Resume h = refl
AreWords-entry entry.Hold h = refl
AreWords-entry entry.Finish h = refl

AreWords-words_of : (one : Line) → IsLine one → AreWords (words_of one)
AreWords-words_of (line.Head batch) h = (refl, (refl, above-decimal batch (omega arith)))
AreWords-words_of (line.Do one) h = AreWords-action one (action_of one) (command-named one) h
AreWords-words_of line.Run h = refl
AreWords-words_of line.End h = refl
AreWords-words_of (line.Worker worker) h = (refl, above32 worker h)
AreWords-words_of (line.Entry one) h = AreWords-entry one h
AreWords-words_of (line.Close close.Cut) h = refl
AreWords-words_of (line.Close close.Long) h = refl

-- ---- a line parts into its words

no_space : (bytes : List ℕ) → above 32 bytes ≡ true → All (λ (b : ℕ). (b == 32) ≡ false) bytes
no_space [] h = All-nil (λ (b : ℕ). (b == 32) ≡ false)
no_space (byte ∷ bytes) h =
    let parts = and_parts (nat_lt 32 byte) (above 32 bytes) h in
    let more : 32 < byte = ltb-true 32 byte parts.0 in
    All-cons (λ (b : ℕ). (b == 32) ≡ false) byte bytes (ne_eqb byte 32 (λ e. omega arith)) (no_space bytes parts.1)

slice_split-join : (words : List (List ℕ)) → AreWords words → slice_split (λ (b : ℕ). b == 32) (join_with_byte 32 words) ≡ words
slice_split-join [] h = absurd h
slice_split-join (word ∷ []) h = slice_split_none (λ (b : ℕ). b == 32) word (no_space word h)
slice_split-join (word ∷ next ∷ words) h =
    slice_split_at (λ (b : ℕ). b == 32) word 32 (join_with_byte 32 (next ∷ words)) (no_space word h.0) refl
    ∙ ap (λ (rest : List (List ℕ)). word ∷ rest) (slice_split-join (next ∷ words) h.1)

-- a line's bytes read as that line
pub parse-spell : (one : Line) → IsLine one → parse (spell one) ≡ Some one
unfolding parse
parse-spell one h = ap line_of (slice_split-join (words_of one) (AreWords-words_of one h)) ∙ line_of-words_of one h

-- ---- a text parts into its lines

has_no_feed-above : (bytes : List ℕ) → above 31 bytes ≡ true → has_no_feed bytes ≡ true
has_no_feed-above [] h = refl
has_no_feed-above (byte ∷ bytes) h =
    let parts = and_parts (nat_lt 31 byte) (above 31 bytes) h in
    let more : 31 < byte = ltb-true 31 byte parts.0 in
    and_from (not (byte == 10)) (has_no_feed bytes) (not_from_false (byte == 10) (ne_eqb byte 10 (λ e. omega arith))) (has_no_feed-above bytes parts.1)

above-weaken : (bytes : List ℕ) → above 32 bytes ≡ true → above 31 bytes ≡ true
above-weaken [] h = refl
above-weaken (byte ∷ bytes) h =
    let parts = and_parts (nat_lt 32 byte) (above 32 bytes) h in
    let more : 32 < byte = ltb-true 32 byte parts.0 in
    and_from (nat_lt 31 byte) (above 31 bytes) (lt-ltb 31 byte (omega arith)) (above-weaken bytes parts.1)

above-join : (words : List (List ℕ)) → AreWords words → above 31 (join_with_byte 32 words) ≡ true
above-join [] h = absurd h
above-join (word ∷ []) h = above-weaken word h
above-join (word ∷ next ∷ words) h =
    above-append 31 word (32 ∷ join_with_byte 32 (next ∷ words)) (above-weaken word h.0) (above-join (next ∷ words) h.1)

-- no line has a line feed
pub has_no_feed-spell : (one : Line) → IsLine one → has_no_feed (spell one) ≡ true
has_no_feed-spell one h = has_no_feed-above (spell one) (above-join (words_of one) (AreWords-words_of one h))

line-lines_of : (bytes rest : List ℕ) → has_no_feed bytes ≡ true → lines_of ((bytes ++ (10 ∷ [])) ++ rest) ≡ bytes ∷ lines_of rest
unfolding lines_of
line-lines_of [] rest h = refl
line-lines_of (byte ∷ bytes) rest h =
    let parts = and_parts (not (byte == 10)) (has_no_feed bytes) h in
    let other : (byte == 10) ≡ false = not-true (byte == 10) parts.0 in
    let after : lines_of ((bytes ++ (10 ∷ [])) ++ rest) ≡ bytes ∷ lines_of rest = line-lines_of bytes rest parts.1 in
    rw (other, after) refl

-- whole lines before a text are its first lines
pub lines_of-unlines : (lines : List (List ℕ)) (rest : List ℕ) → AreClean lines → lines_of (unlines lines ++ rest) ≡ lines ++ lines_of rest
lines_of-unlines [] rest h = refl
lines_of-unlines (bytes ∷ lines) rest h =
    ap lines_of (append_assoc (bytes ++ (10 ∷ [])) (unlines lines) rest)
    ∙ line-lines_of bytes (unlines lines ++ rest) h.0
    ∙ ap (λ (more : List (List ℕ)). bytes ∷ more) (lines_of-unlines lines rest h.1)

onto_line-front : (byte : ℕ) (xs more ys : List (List ℕ)) → xs ++ more ≡ ys
    → (rest : List (List ℕ)) × (onto_line byte xs ++ rest ≡ onto_line byte ys)
onto_line-front byte [] more ys e = (onto_line byte ys, refl)
onto_line-front byte (x ∷ xs) more ys e = (more, ap (onto_line byte) e)

next_line-front : (feed : Bool) (byte : ℕ) (xs more ys : List (List ℕ)) → xs ++ more ≡ ys
    → (rest : List (List ℕ)) × (cond feed ([] ∷ xs) (onto_line byte xs) ++ rest ≡ cond feed ([] ∷ ys) (onto_line byte ys))
next_line-front true byte xs more ys e = (more, ap (λ (lines : List (List ℕ)). [] ∷ lines) e)
next_line-front false byte xs more ys e = onto_line-front byte xs more ys e

-- what follows a text changes none of its lines
pub lines_of-front : (bytes rest : List ℕ) → (more : List (List ℕ)) × (lines_of bytes ++ more ≡ lines_of (bytes ++ rest))
unfolding lines_of
lines_of-front [] rest = (lines_of rest, refl)
lines_of-front (byte ∷ bytes) rest =
    let after = lines_of-front bytes rest in
    next_line-front (byte == 10) byte (lines_of bytes) after.0 (lines_of (bytes ++ rest)) after.1

onto_line-text : (byte : ℕ) (xs : List (List ℕ)) (bytes tail : List ℕ) → bytes ≡ unlines xs ++ tail
    → (rest : List ℕ) × (byte ∷ bytes ≡ unlines (onto_line byte xs) ++ rest)
onto_line-text byte [] bytes tail e = (byte ∷ bytes, refl)
onto_line-text byte (x ∷ xs) bytes tail e = (tail, ap (λ (more : List ℕ). byte ∷ more) e)

next_line-text : (feed : Bool) (byte : ℕ) (xs : List (List ℕ)) (bytes tail : List ℕ) → (feed ≡ true → byte ≡ 10) → bytes ≡ unlines xs ++ tail
    → (rest : List ℕ) × (byte ∷ bytes ≡ unlines (cond feed ([] ∷ xs) (onto_line byte xs)) ++ rest)
next_line-text true byte xs bytes tail h e = (tail, ap (λ (b : ℕ). b ∷ bytes) (h refl) ∙ ap (λ (more : List ℕ). 10 ∷ more) e)
next_line-text false byte xs bytes tail h e = onto_line-text byte xs bytes tail e

-- a text is its lines, and a torn one after them
pub unlines-lines_of : (bytes : List ℕ) → (tail : List ℕ) × (bytes ≡ unlines (lines_of bytes) ++ tail)
unfolding lines_of
unlines-lines_of [] = ([], refl)
unlines-lines_of (byte ∷ bytes) =
    let after = unlines-lines_of bytes in
    next_line-text (byte == 10) byte (lines_of bytes) bytes after.0 (eqb-true byte 10) after.1

AreClean-next : (feed : Bool) (byte : ℕ) (xs : List (List ℕ)) → (byte == 10) ≡ feed → AreClean xs → AreClean (cond feed ([] ∷ xs) (onto_line byte xs))
AreClean-next true byte xs e h = (refl, h)
AreClean-next false byte [] e h = tt
AreClean-next false byte (x ∷ xs) e h = (and_from (not (byte == 10)) (has_no_feed x) (not_from_false (byte == 10) e) h.0, h.1)

-- the lines of a text have no line feeds
pub AreClean-lines_of : (bytes : List ℕ) → AreClean (lines_of bytes)
unfolding lines_of
AreClean-lines_of [] = tt
AreClean-lines_of (byte ∷ bytes) = AreClean-next (byte == 10) byte (lines_of bytes) refl (AreClean-lines_of bytes)

-- the lines of whole lines are those
pub lines_of-whole : (lines : List (List ℕ)) → AreClean lines → lines_of (unlines lines) ≡ lines
unfolding lines_of
lines_of-whole lines h =
    ap lines_of (sym (append-nil (unlines lines))) ∙ lines_of-unlines lines [] h ∙ append-nil lines
