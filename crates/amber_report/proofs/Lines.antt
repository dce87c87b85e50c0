-- Lines, word by word.
use Rattle.std.proofs.Common.{◌≡◌, ◌==◌, ℕ, List, [], ◌∷◌, ◌++◌, length, codes, drop, get_or, take, ◌+◌, ◌<◌, ◌≤◌, true, false, refl, ap, ◌∙◌, sym, append_assoc, arith}
use Rattle.std.specs.List.{flat_map}
use Rattle.std.proofs.lemmas.Bool.Decides.{nat_tests}
use Rattle.std.proofs.lemmas.Grind.{flat_map-append}
use Rattle.std.proofs.lemmas.List.{append-nil, drop_all, drop_more, take_all, take_more}
use Rattle.amber_rows.specs.RowText.{row_text_of}
use Rattle.amber_rows.specs.declared.value.Value.{Value}
use Rattle.amber_meaning.specs.declared.view.WorkerView.{WorkerView}
use Rattle.amber_meaning.specs.Texts.{after_blank, key_text, next_text, view_words, views_text, words_before, words_line}

-- the words of a line after the first have a blank each
pub line_of : (word : List ℕ) (more : List (List ℕ)) → words_line (word ∷ more) ≡ word ++ (flat_map after_blank more ++ 10 ∷ [])
unfolding words_line
line_of word [] = refl
line_of word (next ∷ more) =
    ap (λ end. word ++ 32 ∷ end) (line_of next more ∙ sym (append_assoc next (flat_map after_blank more) (10 ∷ [])))

-- a line of a word and more
pub whole_line : (old word : List ℕ) (more : List (List ℕ)) → ((old ++ word) ++ flat_map after_blank more) ++ 10 ∷ [] ≡ old ++ words_line (word ∷ more)
whole_line old word more = rw (line_of word more) (simp append_assoc)

-- words, and more after them
pub effect_words : (old : List ℕ) (words : List (List ℕ)) (id : List ℕ) (more : List (List ℕ))
    → ((old ++ flat_map after_blank words) ++ after_blank id) ++ flat_map after_blank more ≡ old ++ flat_map after_blank (words ++ id ∷ more)
effect_words old words id more = rw (flat_map-append after_blank words (id ∷ more)) (simp append_assoc)

-- a line whose last words say why a record is no row
pub record_line : (old id number : List ℕ) (why : List (List ℕ))
    → (((((old ++ codes "refused record") ++ after_blank id) ++ after_blank number) ++ flat_map after_blank why) ++ 10 ∷ [])
    ≡ old ++ words_line (codes "refused" ∷ codes "record" ∷ id ∷ number ∷ why)
record_line old id number why = rw (line_of (codes "refused") (codes "record" ∷ id ∷ number ∷ why)) (simp append_assoc)

-- a line that ends with the record of a key
pub group_line : (old id : List ℕ) (key : List Value) → (length key == 0) ≡ false
    → ((old ++ codes "refused group") ++ after_blank id) ++ after_blank (row_text_of key) ≡ old ++ key_text (codes "refused" ∷ codes "group" ∷ id ∷ []) key
unfolding words_before
group_line old id [] some = cc
group_line old id (cell ∷ cells) some = simp append_assoc

-- the line of a key without cells
pub bare_line : (old id : List ℕ) (key : List Value) → (length key == 0) ≡ true
    → ((old ++ codes "refused group") ++ after_blank id) ++ 10 ∷ [] ≡ old ++ key_text (codes "refused" ∷ codes "group" ∷ id ∷ []) key
unfolding words_line
bare_line old id [] none = simp append_assoc
bare_line old id (cell ∷ cells) none = grind (arith, nat_tests)

-- pieces of a line, one after the other, are its words
worker_pieces : (f : List ℕ → List ℕ) (old w a t b r c o d p e s : List ℕ) (more : List (List ℕ))
    → ((((((((old ++ w) ++ f a) ++ flat_map f (t ∷ b ∷ [])) ++ flat_map f (r ∷ c ∷ [])) ++ flat_map f (o ∷ d ∷ [])) ++ flat_map f (p ∷ e ∷ [])) ++ f s) ++ flat_map f more) ++ 10 ∷ []
    ≡ old ++ (w ++ (flat_map f (a ∷ t ∷ b ∷ r ∷ c ∷ o ∷ d ∷ p ∷ e ∷ s ∷ more) ++ 10 ∷ []))
worker_pieces f old w a t b r c o d p e s more = simp (append_assoc, append-nil)

-- the line of a worker
pub worker_line : (old worker taken rest out pending stand : List ℕ) (more : List (List ℕ))
    → ((((((((old ++ codes "worker") ++ after_blank worker) ++ flat_map after_blank (codes "taken" ∷ taken ∷ [])) ++ flat_map after_blank (codes "rest" ∷ rest ∷ []))
    ++ flat_map after_blank (codes "out" ∷ out ∷ [])) ++ flat_map after_blank (codes "pending" ∷ pending ∷ [])) ++ after_blank stand) ++ flat_map after_blank more) ++ 10 ∷ []
    ≡ old ++ words_line (codes "worker" ∷ worker ∷ codes "taken" ∷ taken ∷ codes "rest" ∷ rest ∷ codes "out" ∷ out ∷ codes "pending" ∷ pending ∷ stand ∷ more)
worker_line old worker taken rest out pending stand more =
    worker_pieces after_blank old (codes "worker") worker (codes "taken") taken (codes "rest") rest (codes "out") out (codes "pending") pending stand more
    ∙ ap (λ line. old ++ line)
    (sym (line_of (codes "worker") (worker ∷ codes "taken" ∷ taken ∷ codes "rest" ∷ rest ∷ codes "out" ∷ out ∷ codes "pending" ∷ pending ∷ stand ∷ more)))

-- one worker is printed, and those after it are left
pub views_step : (old told : List ℕ) (views : List WorkerView) (worker : ℕ) (view : WorkerView) → worker < length views → view ≡ get_or views worker view
    → told ≡ (old ++ words_line (view_words worker view)) ++ next_text view.next
    → told ++ views_text (worker + 1) (drop (worker + 1) views) ≡ old ++ views_text worker (drop worker views)
unfolding views_text
views_step old told views worker view less is so =
    let here : drop worker views ≡ view ∷ drop (worker + 1) views = drop_more views worker view less ∙ ap (λ v. v ∷ drop (worker + 1) views) (sym is) in
    let left : List ℕ = views_text (worker + 1) (drop (worker + 1) views) in
    ap (λ text. text ++ left) so ∙ append_assoc (old ++ words_line (view_words worker view)) (next_text view.next) left
    ∙ append_assoc old (words_line (view_words worker view)) (next_text view.next ++ left) ∙ ap (λ more. old ++ views_text worker more) (sym here)

-- all workers are printed
pub views_end : (told : List ℕ) (views : List WorkerView) (worker : ℕ) → length views ≤ worker → told ++ views_text worker (drop worker views) ≡ told
unfolding views_text
views_end told views worker most = ap (λ more. told ++ views_text worker more) (drop_all worker views most) ∙ append-nil told

-- one more is printed after those so far
pub told_more : {X : Type 0} (f : X → List ℕ) (old text more : List ℕ) (xs : List X) (i : ℕ) (x d : X) → i < length xs → x ≡ get_or xs i d
    → text ≡ old ++ flat_map f (take i xs) → more ≡ text ++ f x → more ≡ old ++ flat_map f (take (i + 1) xs)
told_more f old text more xs i x d less is told so =
    let last : List ℕ = flat_map f (take i xs) in
    let step : flat_map f (take (i + 1) xs) ≡ last ++ f x =
    ap (flat_map f) (take_more xs i d less) ∙ flat_map-append f (take i xs) (get_or xs i d ∷ []) ∙ ap (λ (end : List ℕ). last ++ end) (append-nil (f (get_or xs i d)) ∙ ap f (sym is)) in
    so ∙ ap (λ (begun : List ℕ). begun ++ f x) told ∙ append_assoc old last (f x) ∙ ap (λ (end : List ℕ). old ++ end) (sym step)

-- all are printed
pub told_all : {X : Type 0} (f : X → List ℕ) (old text : List ℕ) (xs : List X) (i : ℕ) → length xs ≤ i → text ≡ old ++ flat_map f (take i xs) → text ≡ old ++ flat_map f xs
told_all f old text xs i most told = told ∙ ap (λ ys. old ++ flat_map f ys) (take_all i xs most)
