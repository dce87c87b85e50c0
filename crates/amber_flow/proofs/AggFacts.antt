-- The aggregates that texts mean.
use Rattle.std.proofs.Common.{◌≡◌, ℕ, Bool, true, false, cond, eqb, List, ◌++◌, length, take, drop, Option, Some, None, option_map, MatchOption, Bor, bytes_eq, codes, refl, sym, ap, ◌∙◌}
use Rattle.std.proofs.lemmas.Bool.Decides.{Decides-eqb}
use Rattle.std.proofs.lemmas.Slice.Eq.{bytes_eq-Decides, starts_is}
use Rattle.std.specs.Cmp.Lexicographic.{pointwise}
use Rattle.std.specs.Str.Pattern.{FindsTextPrefix, StripsPrefix}
use Rattle.amber_rows.specs.Columns.{agg_name, name_at}
use Rattle.amber_rows.specs.declared.agg.Agg.{Agg}
use Rattle.amber_rows.specs.declared.agg.Agg.TheVariants.{Count, Sum, Min, Max}
use Rattle.amber_rows.specs.declared.column.Column.{Column}
use Rattle.amber_flow.specs.Aggregates.{agg_of, agg_or, behind}
use Rattle.amber_flow.specs.Columns.{column_number}
use Rattle.amber_flow.proofs.NameFacts.{number-named}

-- ---- what follows a word

strip_by : (word text : List ℕ) (begins : Bool) → begins ≡ pointwise eqb word (take (length word) text) → (found : Option (Bor (List ℕ)))
    → MatchOption found (FindsTextPrefix word text None) (λ rest. StripsPrefix (FindsTextPrefix word) text rest.now) → option_map (λ rest. rest.now) found ≡ cond begins (Some (drop (length word) text)) None
strip_by word text true is None lacks = absurd (lacks (drop (length word) text) ((starts_is Decides-eqb text word true is).0 refl))
strip_by word text false is None lacks = refl
strip_by word text true is (Some rest) strips = ap Some (strips.2 ∙ ap (λ n. drop n text) strips.1.0)
strip_by word text false is (Some rest) strips =
    let begins : false ≡ true = (starts_is Decides-eqb text word false is).1 (drop strips.0 text) strips.1.1 in
    absurd (cc)

pub strip-behind : (word text : List ℕ) (found : Option (Bor (List ℕ))) → MatchOption found (FindsTextPrefix word text None) (λ rest. StripsPrefix (FindsTextPrefix word) text rest.now) → option_map (λ rest. rest.now) found ≡ behind word text
strip-behind word text found cases = strip_by word text (pointwise eqb word (take (length word) text)) refl found cases

behind_by : (word text rest : List ℕ) (begins : Bool) → begins ≡ pointwise eqb word (take (length word) text) → cond begins (Some (drop (length word) text)) None ≡ Some rest → text ≡ word ++ rest
behind_by word text rest true is found =
    let same : drop (length word) text ≡ rest = cc in
    (starts_is Decides-eqb text word true is).0 refl ∙ ap (λ more. word ++ more) same
behind_by word text rest false is found = absurd (cc)

behind-text : (word text rest : List ℕ) → behind word text ≡ Some rest → text ≡ word ++ rest
behind-text word text rest found = behind_by word text rest (pointwise eqb word (take (length word) text)) refl found

-- ---- an aggregate's text

-- where the column has a name
by_number : (columns : List Column) (make : ℕ → Agg) (word name text : List ℕ) (agg : Agg) → ((n : ℕ) → agg_name columns (make n) ≡ word ++ name_at columns n) → text ≡ word ++ name
    → (number : Option ℕ) → column_number columns name ≡ number → option_map make number ≡ Some agg → agg_name columns agg ≡ text
by_number columns make word name text agg named is None found given = absurd (cc)
by_number columns make word name text agg named is (Some n) found given =
    let made : make n ≡ agg = cc in
    let there = number-named columns name n found in
    let called : name_at columns n ≡ name = rw there.here there.named in
    sym (ap (agg_name columns) made) ∙ named n ∙ ap (λ more. word ++ more) called ∙ sym is

-- after a word, or else by what follows
by_word : (columns : List Column) (make : ℕ → Agg) (word text : List ℕ) (agg : Agg) (other : Option Agg) → ((n : ℕ) → agg_name columns (make n) ≡ word ++ name_at columns n) → (other ≡ Some agg → agg_name columns agg ≡ text)
    → (rest : Option (List ℕ)) → behind word text ≡ rest → agg_or rest (λ name. option_map make (column_number columns name)) other ≡ Some agg → agg_name columns agg ≡ text
by_word columns make word text agg other named more None is given = more given
by_word columns make word text agg other named more (Some name) is given = by_number columns make word name text agg named (behind-text word text name is) (column_number columns name) refl given

none_given : (columns : List Column) (text : List ℕ) (agg : Agg) → None ≡ Some agg → agg_name columns agg ≡ text
none_given columns text agg given = absurd (cc)

other_of : List Column → List ℕ → Option Agg
other_of columns text =
    agg_or (behind (codes "sum:") text) (λ name. option_map Sum (column_number columns name))
    (agg_or (behind (codes "min:") text) (λ name. option_map Min (column_number columns name))
    (agg_or (behind (codes "max:") text) (λ name. option_map Max (column_number columns name)) None))

other_named : (columns : List Column) (text : List ℕ) (agg : Agg) → other_of columns text ≡ Some agg → agg_name columns agg ≡ text
unfolding other_of
other_named columns text agg given =
    by_word columns Sum (codes "sum:") text agg _ (λ n. refl)
    (λ more. by_word columns Min (codes "min:") text agg _ (λ n. refl)
    (λ most. by_word columns Max (codes "max:") text agg None (λ n. refl) (none_given columns text agg) (behind (codes "max:") text) refl most)
    (behind (codes "min:") text) refl more)
    (behind (codes "sum:") text) refl given

named_by : (columns : List Column) (text : List ℕ) (agg : Agg) (counts : Bool) → bytes_eq text (codes "count") ≡ counts → cond counts (Some Count) (other_of columns text) ≡ Some agg → agg_name columns agg ≡ text
named_by columns text agg true is given =
    let made : Count ≡ agg = cc in
    sym (ap (agg_name columns) made) ∙ sym ((bytes_eq-Decides text (codes "count")).0 is)
named_by columns text agg false is given = other_named columns text agg given

pub agg-text : (columns : List Column) (text : List ℕ) (agg : Agg) → agg_of columns text ≡ Some agg → agg_name columns agg ≡ text
unfolding other_of
agg-text columns text agg given = named_by columns text agg (bytes_eq text (codes "count")) refl given
