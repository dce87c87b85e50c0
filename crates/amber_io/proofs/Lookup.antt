-- A look-up by name that goes over a list of files from its front, and changes of the file that it finds.
use Rattle.std.proofs.Common.{◌≡◌, refl, suc, sym, ap, subst, ◌∙◌, ℕ, ◌+◌, ◌<◌, ◌≤◌, Bool, true, false, cond, List, [], ◌∷◌, ◌++◌, length, map, take, drop, get_or, set, None, Some, Option, String, Vec, string_bytes, nat_eq, add-one, drop-cons, arith}
use Rattle.std.proofs.lemmas.Grind.{take_at_read}
use Rattle.std.proofs.lemmas.List.{take-append-drop, map-append, take_all, length-map, length-take-le, map-set}
use Rattle.std.proofs.Math.ListN.{get_or-map}
use Rattle.std.proofs.Math.Seq.{get_or-append_seam, map-set_same, set-append_seam}
use Rattle.std.specs.declared.alloc.Global.{Global}
use Rattle.std.specs.Ordering.{nat_cmp, eq_by_cmp}
use Rattle.std.specs.Cmp.Lexicographic.{slice_cmp, pointwise, same_text, texts_ties, nat_list_cmp_total}
use Rattle.std.proofs.lemmas.Bool.{true≢false}
use Rattle.std.proofs.lemmas.Option.{none-some}
use Rattle.std.proofs.lemmas.Cmp.{eq_by_cmp_equiv}
use Rattle.std.specs.FinMap.{find, get, get-from_entries, get-insert, insert, same_map, from_entries_push, slice_cmp-IsAntisymmetric, nat_cmp-IsAntisymmetric}
use Rattle.amber_io.specs.Folder.{grown, files_of}
use Rattle.amber_io.specs.Memory.{IsPlace, entry_bytes, lacks_name}

abbrev pub tied : List ℕ → List ℕ → Bool
tied a b = eq_by_cmp (slice_cmp nat_cmp) a b

abbrev pub File : Type 0
File = List ℕ × List ℕ

abbrev found : List ℕ → List File → Option (List ℕ)
found name files = find (slice_cmp nat_cmp) name files

-- ---- a list with one file more

lacks-cons : (name : List ℕ) (files more : List File) (file : File) (b : Bool) → tied name file.0 ≡ b → cond b (Some file.1) (found name files) ≡ None
    → (found name files ≡ None → found name more ≡ None) → cond b (Some file.1) (found name more) ≡ None
lacks-cons name files more file true is none then = none
lacks-cons name files more file false is none then = then none

-- a list with one file more lacks a name, where that file has another one
pub lacks-push : (name : List ℕ) (files : List File) (one : File) → lacks_name name files → tied name one.0 ≡ false → lacks_name name (files ++ one ∷ [])
lacks-push name [] one none other = rw other refl
lacks-push name (file ∷ files) one none other =
    lacks-cons name files (files ++ one ∷ []) file (tied name file.0) refl none (λ less. lacks-push name files one less other)

-- ---- what is found after files of other names

pub tied-same : (name : List ℕ) → tied name name ≡ true
tied-same name = (eq_by_cmp_equiv nat_list_cmp_total).refl name

tied-equal : (a b : List ℕ) → tied a b ≡ true → a ≡ b
tied-equal a b is = same_text a b (sym is ∙ sym (texts_ties a b))

tied-other-by : (q a b : List ℕ) (r : Bool) → tied q b ≡ r → tied q a ≡ true → tied b a ≡ false → tied q b ≡ false
tied-other-by q a b false same is other = same
tied-other-by q a b true same is other = absurd (true≢false (sym is ∙ ap (λ x. tied x a) (tied-equal q b same) ∙ other))

-- a name that is not tied to another, from a name that is
tied-other : (q a b : List ℕ) → tied q a ≡ true → tied b a ≡ false → tied q b ≡ false
tied-other q a b is other = tied-other-by q a b (tied q b) refl is other

cond-none : {A : Type 0} (b : Bool) (x : A) (y : Option A) → cond b (Some x) y ≡ None → (b ≡ false) × (y ≡ None)
cond-none true x y none = absurd (none-some x (sym none))
cond-none false x y none = (refl, none)

pub found-at : (name : List ℕ) (front behind : List File) (held : List ℕ) → lacks_name name front → found name (front ++ (name, held) ∷ behind) ≡ Some held
found-at name [] behind held none = rw (tied-same name) refl
found-at name (file ∷ front) behind held none =
    let parts = cond-none (tied name file.0) file.1 (found name front) none in
    rw parts.0 (found-at name front behind held parts.1)

pub cond-twice : {A : Type 0} (b : Bool) (x y z : A) → cond b x z ≡ cond b x (cond b y z)
cond-twice true x y z = refl
cond-twice false x y z = refl

changed-by : (name q : List ℕ) (file : File) (new old : Option (List ℕ)) (bytes : List ℕ) (b : Bool) → tied q file.0 ≡ b → tied name file.0 ≡ false
    → new ≡ cond (tied q name) (Some bytes) old → cond b (Some file.1) new ≡ cond (tied q name) (Some bytes) (cond b (Some file.1) old)
changed-by name q file new old bytes true is other then = rw (tied-other q file.0 name is other) refl
changed-by name q file new old bytes false is other then = then

-- the first file of a name changed: what is found of each name
found-changed : (name q : List ℕ) (front behind : List File) (held bytes : List ℕ) → lacks_name name front
    → found q (front ++ (name, bytes) ∷ behind) ≡ cond (tied q name) (Some bytes) (found q (front ++ (name, held) ∷ behind))
found-changed name q [] behind held bytes none = cond-twice (tied q name) (Some bytes) (Some held) (found q behind)
found-changed name q (file ∷ front) behind held bytes none =
    let parts = cond-none (tied name file.0) file.1 (found name front) none in
    changed-by name q file _ _ bytes (tied q file.0) refl parts.0 (found-changed name q front behind held bytes parts.1)

pub files_of-changed : (name : List ℕ) (front behind : List File) (held bytes : List ℕ) → lacks_name name front
    → files_of (front ++ (name, bytes) ∷ behind) ≡ insert (files_of (front ++ (name, held) ∷ behind)) name bytes
files_of-changed name front behind held bytes none =
    same_map nat_list_cmp_total (slice_cmp-IsAntisymmetric nat_cmp-IsAntisymmetric) _ _ (λ q.
    get-from_entries nat_list_cmp_total (front ++ (name, bytes) ∷ behind) q ∙ found-changed name q front behind held bytes none
    ∙ sym (get-insert nat_list_cmp_total (files_of (front ++ (name, held) ∷ behind)) name bytes q
    ∙ ap (cond (tied q name) (Some bytes)) (get-from_entries nat_list_cmp_total (front ++ (name, held) ∷ behind) q)))

-- ---- as the functions use it

pub get-placed : (name : List ℕ) (files : List File) (place : ℕ) → (at : IsPlace name files place) → get (files_of files) name ≡ Some at.held
get-placed name files place at =
    rw at.split (get-from_entries nat_list_cmp_total (at.front ++ (name, at.held) ∷ at.behind) name ∙ found-at name at.front at.behind at.held at.first)

pub get-lacking : (name : List ℕ) (files : List File) → lacks_name name files → get (files_of files) name ≡ None
get-lacking name files none = get-from_entries nat_list_cmp_total files name ∙ none

pub files_of-pushed : (name bytes : List ℕ) (files : List File) → lacks_name name files → files_of (files ++ (name, bytes) ∷ []) ≡ insert (files_of files) name bytes
files_of-pushed name bytes files none = from_entries_push nat_list_cmp_total (slice_cmp-IsAntisymmetric nat_cmp-IsAntisymmetric) files name bytes none

-- ---- the loop over the files that are held

abbrev Held : Type 0
Held = String Global × Vec ℕ Global

-- the files up to one that is held, and those after it
held-split : (items : List Held) (i : ℕ) (e : Held) → i < length items → e ≡ get_or items i e
    → map entry_bytes items ≡ map entry_bytes (take i items) ++ entry_bytes e ∷ map entry_bytes (drop (i + 1) items)
held-split items i e h is =
    ap (map entry_bytes) (sym (take-append-drop i items)) ∙ map-append entry_bytes (take i items) (drop i items)
    ∙ ap (λ files. map entry_bytes (take i items) ++ map entry_bytes files)
    (drop-cons items i e h ∙ ap (λ x. x ∷ drop (suc i) items) (sym is) ∙ ap (λ n. e ∷ drop n items) (sym (add-one i)))

pub lacks-next : (name : List ℕ) (items : List Held) (i : ℕ) (e : Held) (b : Bool) → i < length items → e ≡ get_or items i e
    → b ≡ pointwise nat_eq name (string_bytes e.0) → b ≡ false → lacks_name name (map entry_bytes (take i items))
    → lacks_name name (map entry_bytes (take (i + 1) items))
lacks-next name items i e b h is same other none =
    rw ((take_at_read items i e h).1, ← is, map-append entry_bytes (take i items) (e ∷ []))
    (lacks-push name (map entry_bytes (take i items)) (entry_bytes e) none (sym (texts_ties name (string_bytes e.0)) ∙ sym same ∙ other))

pub lacks-all : (name : List ℕ) (items : List Held) (i : ℕ) → length items ≤ i → lacks_name name (map entry_bytes (take i items)) → lacks_name name (map entry_bytes items)
lacks-all name items i h none = subst (λ files. lacks_name name (map entry_bytes files)) (take_all i items h) none

pub place-here : (name : List ℕ) (items : List Held) (i : ℕ) (e : Held) (b : Bool) → i < length items → e ≡ get_or items i e
    → b ≡ pointwise nat_eq name (string_bytes e.0) → b ≡ true → lacks_name name (map entry_bytes (take i items))
    → IsPlace name (map entry_bytes items) i
place-here name items i e b h is same this none = record {
  front = map entry_bytes (take i items);
  held = e.1.items;
  behind = map entry_bytes (drop (i + 1) items);
  split = held-split items i e h is ∙ ap (λ x. map entry_bytes (take i items) ++ (x, e.1.items) ∷ map entry_bytes (drop (i + 1) items))
      (sym (same_text name (string_bytes e.0) (sym this ∙ same)));
  at = sym (length-map (take i items) entry_bytes ∙ length-take-le i items (omega (arith, h)));
  first = none;
}

pub place-at : (name : List ℕ) (files : List File) (inner items : List Held) (i : ℕ) (e : Held) (b : Bool) → map entry_bytes inner ≡ files → items ≡ inner
    → i < length items → e ≡ get_or items i e → b ≡ pointwise nat_eq name (string_bytes e.0) → b ≡ true → lacks_name name (map entry_bytes (take i items))
    → IsPlace name files i
place-at name files inner items i e b view is h held same this none =
    subst (λ list. IsPlace name list i) (ap (map entry_bytes) is ∙ view) (place-here name items i e b h held same this none)

-- ---- a file that is held is changed

-- the same bytes under the same name
pub held-kept : (files : List File) (items : List Held) (i : ℕ) (e : Held) (bytes : Vec ℕ Global) → map entry_bytes items ≡ files → e ≡ get_or items i e
    → bytes.items ≡ e.1.items → map entry_bytes (set items i (e.0, bytes)) ≡ files
held-kept files items i e bytes view is same =
    map-set_same entry_bytes items i (e.0, bytes) e ((λ k. (string_bytes e.0, same k)) ∙ ap entry_bytes is) ∙ view

-- what is held at the place of a name
pub placed-entry : (name : List ℕ) (items : List Held) (i : ℕ) (e : Held) → (at : IsPlace name (map entry_bytes items) i) → e ≡ get_or items i e
    → entry_bytes e ≡ (name, at.held)
placed-entry name items i e at is =
    ap entry_bytes is ∙ sym (get_or-map entry_bytes items i e)
    ∙ ap (λ files. get_or files i (entry_bytes e)) at.split
    ∙ ap (λ n. get_or (at.front ++ (name, at.held) ∷ at.behind) n (entry_bytes e)) at.at
    ∙ get_or-append_seam at.front (name, at.held) at.behind (entry_bytes e)

pub files_of-set : (name bytes : List ℕ) (items : List Held) (i : ℕ) (e : Held) → (at : IsPlace name (map entry_bytes items) i) → entry_bytes e ≡ (name, bytes)
    → files_of (map entry_bytes (set items i e)) ≡ insert (files_of (map entry_bytes items)) name bytes
files_of-set name bytes items i e at is =
    ap files_of (map-set entry_bytes items i e ∙ ap (λ x. set (map entry_bytes items) i x) is
    ∙ ap (λ files. set files i (name, bytes)) at.split ∙ ap (λ n. set (at.front ++ (name, at.held) ∷ at.behind) n (name, bytes)) at.at
    ∙ set-append_seam at.front (name, at.held) at.behind (name, bytes))
    ∙ files_of-changed name at.front at.behind at.held bytes at.first
    ∙ ap (λ files. insert (files_of files) name bytes) (sym at.split)

pub files_of-emptied : (name : List ℕ) (files : List File) (items : List Held) (i : ℕ) (e : Held) (bytes : Vec ℕ Global)
    → map entry_bytes items ≡ files → IsPlace name files i → e ≡ get_or items i e → bytes.items ≡ []
    → files_of (map entry_bytes (set items i (e.0, bytes))) ≡ insert (files_of files) name []
files_of-emptied name files items i e bytes view at is none =
    let here : IsPlace name (map entry_bytes items) i = subst (λ list. IsPlace name list i) (sym view) at in
    files_of-set name [] items i (e.0, bytes) here (λ k. ((placed-entry name items i e here is k).0, none k))
    ∙ ap (λ list. insert (files_of list) name []) view

pub files_of-grown : (name more : List ℕ) (files : List File) (items : List Held) (i : ℕ) (e : Held) (bytes : Vec ℕ Global)
    → map entry_bytes items ≡ files → IsPlace name files i → e ≡ get_or items i e → bytes.items ≡ e.1.items ++ more
    → files_of (map entry_bytes (set items i (e.0, bytes))) ≡ grown (files_of files) name (get (files_of files) name) more
files_of-grown name more files items i e bytes view at is longer =
    let here : IsPlace name (map entry_bytes items) i = subst (λ list. IsPlace name list i) (sym view) at in
    let entry = placed-entry name items i e here is in
    files_of-set name (here.held ++ more) items i (e.0, bytes) here (λ k. ((entry k).0, (longer ∙ ap (λ x. x.1 ++ more) entry) k))
    ∙ ap (λ found. grown (files_of (map entry_bytes items)) name found more) (sym (get-placed name (map entry_bytes items) i here))
    ∙ ap (λ list. grown (files_of list) name (get (files_of list) name) more) view

pub files_of-kept : (name more : List ℕ) (files : List File) → lacks_name name files → files_of files ≡ grown (files_of files) name (get (files_of files) name) more
files_of-kept name more files none = ap (λ found. grown (files_of files) name found more) (sym (get-lacking name files none))

pub found-held : (name : List ℕ) (files : List File) (items : List Held) (i : ℕ) (e : Held)
    → map entry_bytes items ≡ files → IsPlace name files i → e ≡ get_or items i e → Some e.1.items ≡ get (files_of files) name
found-held name files items i e view at is =
    let here : IsPlace name (map entry_bytes items) i = subst (λ list. IsPlace name list i) (sym view) at in
    ap (λ x. Some x.1) (placed-entry name items i e here is) ∙ sym (get-placed name (map entry_bytes items) i here)
    ∙ ap (λ list. get (files_of list) name) view

pub files_of-appended : (name : List ℕ) (files : List File) (items longer : List Held) (text : String Global) (bytes : Vec ℕ Global)
    → map entry_bytes items ≡ files → lacks_name name files → string_bytes text ≡ name → bytes.items ≡ [] → longer ≡ items ++ (text, bytes) ∷ []
    → files_of (map entry_bytes longer) ≡ insert (files_of files) name []
files_of-appended name files items longer text bytes view none text-is empty is =
    ap (λ list. files_of (map entry_bytes list)) is ∙ ap files_of (map-append entry_bytes items ((text, bytes) ∷ []))
    ∙ ap (λ list. files_of (list ++ (string_bytes text, bytes.items) ∷ [])) view
    ∙ ap (λ one. files_of (files ++ one ∷ [])) (λ k. (text-is k, empty k))
    ∙ files_of-pushed name [] files none
