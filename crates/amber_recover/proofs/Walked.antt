-- The items of a log that are done again one after the other.
use Rattle.std.proofs.Common.{◌≡◌, ℕ, ◌+◌, ◌<◌, ◌≤◌, List, [], ◌∷◌, ◌++◌, length, get_or, take, drop, Some, None, Bool, true, false, if◌then◌else◌, refl, sym, ap, subst, ◌∙◌}
use Rattle.std.specs.List.{flat_map}
use Rattle.std.proofs.lemmas.Bool.{eq-eqb}
use Rattle.std.proofs.lemmas.List.{drop_all, drop_more, take_all, take_more}
use Rattle.amber_log.specs.Grammar.{AreItems, IsItem, ends_over, is_last}
use Rattle.amber_log.specs.LogText.{item_lines}
use Rattle.amber_log.specs.declared.leg.Part.{Part}
use Rattle.amber_log.specs.declared.log.Item.{Item}
use Rattle.amber_log.specs.declared.log.Log.{Log}
use Rattle.amber_log.proofs.Pushes.{ends_over-push}
use Rattle.amber_meaning.specs.Legal.{Query}
use Rattle.amber_meaning.specs.Replay.{after_items, state_after}
use Rattle.amber_meaning.specs.State.{start_of}
use Rattle.amber_meaning.specs.Transcript.{replies, reply_of, transcript_of}
use Rattle.amber_meaning.proofs.Fronts.{transcripts_grow}
use Rattle.amber_lines.specs.Lines.{Between, bad_line_from, bad_or, illegal_line, when}
use Rattle.amber_home.specs.HomeState.{HomeState, query_of, rest_state}
use Rattle.amber_home.specs.declared.phase.Phase.TheVariants as phase
use Rattle.amber_recover.specs.Recovering.{bad_behind_head}
use Rattle.amber_recover.specs.Redone.{HasRedoneItem, bad_in_item}
use Rattle.amber_recover.proofs.Judging.{bad-front, bad-on}

-- the replies, where they are told
abbrev pub told_of : Bool → List ℕ → List ℕ
told_of tells text = if tells then text else []

-- the items behind the first ones, where these were done
pub record HasDoneItems (items : List Item) (i : ℕ) (old new : HomeState) : Type 0 where
  pub only : new ≡ record old { log = record old.log { items = take i items }; phase = new.phase; alone = new.alone; turned = new.turned }
  pub rests : ends_over false (take i items) ≡ false → new.phase ≡ phase.Resting
  pub text : AreItems (ends_over false (take i items)) (drop i items)

-- before the first item
pub first-done : (home : HomeState) (items : List Item) → home.phase ≡ phase.Resting → home.log.items ≡ [] → AreItems false items → HasDoneItems items 0 home home
first-done home items rests empty text = record {
  only = ap (λ (none : List Item). record home { log = record home.log { items = none } }) empty;
  rests = λ more. rests;
  text = text;
}

-- the next item
front-of : (over : Bool) (one : Item) (more : List Item) → AreItems over (one ∷ more) → (over ≡ false) × IsItem one × AreItems (is_last one) more
unfolding AreItems
front-of over one more h = h

next-of : (items : List Item) (i : ℕ) (one : Item) (old mid : HomeState) → i < length items → one ≡ get_or items i one → HasDoneItems items i old mid
    → (ends_over false (take i items) ≡ false) × IsItem one × AreItems (is_last one) (drop (i + 1) items)
next-of items i one old mid less is h =
    front-of (ends_over false (take i items)) one (drop (i + 1) items)
    (subst (AreItems (ends_over false (take i items))) (drop_more items i one less ∙ ap (λ (x : Item). x ∷ drop (i + 1) items) (sym is)) h.text)

pub next-open : (items : List Item) (i : ℕ) (one : Item) (old mid : HomeState) → i < length items → one ≡ get_or items i one → HasDoneItems items i old mid
    → ends_over false mid.log.items ≡ false
next-open items i one old mid less is h = ap (λ (e : HomeState). ends_over false e.log.items) h.only ∙ (next-of items i one old mid less is h).0

pub next-rests : (items : List Item) (i : ℕ) (one : Item) (old mid : HomeState) → i < length items → one ≡ get_or items i one → HasDoneItems items i old mid
    → mid.phase ≡ phase.Resting
next-rests items i one old mid less is h = h.rests (next-of items i one old mid less is h).0

pub next-text : (items : List Item) (i : ℕ) (one : Item) (old mid : HomeState) → i < length items → one ≡ get_or items i one → HasDoneItems items i old mid
    → IsItem one
next-text items i one old mid less is h = (next-of items i one old mid less is h).1

next-take : (items : List Item) (i : ℕ) (one : Item) → i < length items → one ≡ get_or items i one → take (i + 1) items ≡ take i items ++ one ∷ []
next-take items i one less is = take_more items i one less ∙ ap (λ (x : Item). take i items ++ x ∷ []) (sym is)

pub next-done : (items : List Item) (i : ℕ) (one : Item) (old mid new : HomeState) → i < length items → one ≡ get_or items i one → old.parts ≡ []
    → HasDoneItems items i old mid → HasRedoneItem one mid new → HasDoneItems items (i + 1) old new
next-done items i one old mid new less is none h done =
    let longer = next-take items i one less is in
    let over : ends_over false (take (i + 1) items) ≡ is_last one = ap (ends_over false) longer ∙ ends_over-push false (take i items) one in
    record {
      only = done.only ∙ ap (λ (m : HomeState). by m (m.log.items ++ one ∷ []) []) h.only ∙ ap (λ (ps : List Part). by old (take i items ++ one ∷ []) ps) (sym none)
          ∙ ap (λ (xs : List Item). by old xs old.parts) (sym longer);
      rests = λ more. done.rests (sym over ∙ more);
      text = subst (λ (b : Bool). AreItems b (drop (i + 1) items)) (sym over) (next-of items i one old mid less is h).2;
    }
  where
    by : HomeState → List Item → List Part → HomeState
    by m xs ps = record m { log = record m.log { items = xs }; phase = new.phase; parts = ps; alone = new.alone; turned = new.turned }

-- ---- the lines

done-query : (items : List Item) (i : ℕ) (old mid : HomeState) → HasDoneItems items i old mid → query_of mid ≡ query_of old
done-query items i old mid h = ap query_of h.only

-- what is left of a walk along the lines
pub left-first : (home : HomeState) (items : List Item) → home.log.items ≡ []
    → bad_line_from (query_of home) (Between (rest_state home)) 2 (flat_map item_lines items) ≡ bad_behind_head (query_of home) items
unfolding state_after after_items
left-first home items empty =
    ap (λ (none : List Item). bad_line_from (query_of home) (Between (state_after (query_of home) none)) 2 (flat_map item_lines items)) empty

left-lines : (items : List Item) (i : ℕ) (one : Item) → i < length items → one ≡ get_or items i one
    → flat_map item_lines (drop i items) ≡ item_lines one ++ flat_map item_lines (drop (i + 1) items)
left-lines items i one less is = ap (flat_map item_lines) (drop_more items i one less ∙ ap (λ (x : Item). x ∷ drop (i + 1) items) (sym is))

pub left-more : (items : List Item) (i number : ℕ) (one : Item) (old mid new : HomeState) → i < length items → one ≡ get_or items i one
    → HasDoneItems items i old mid → HasRedoneItem one mid new
    → bad_line_from (query_of old) (Between (rest_state new)) (number + length (item_lines one)) (flat_map item_lines (drop (i + 1) items))
    ≡ bad_line_from (query_of old) (Between (rest_state mid)) number (flat_map item_lines (drop i items))
left-more items i number one old mid new less is h done =
    let rest = flat_map item_lines (drop (i + 1) items) in
    let same = done-query items i old mid h in
    sym (ap (bad_line_from (query_of old) (Between (rest_state mid)) number) (left-lines items i one less is)
    ∙ ap (λ (q : Query). bad_line_from q (Between (rest_state mid)) number (item_lines one ++ rest)) (sym same)
    ∙ bad-on (query_of mid) (Between (rest_state mid)) (Between (rest_state new)) number (item_lines one) rest done.good
    ∙ ap (λ (q : Query). bad_line_from q (Between (rest_state new)) (number + length (item_lines one)) rest) same)

-- a bad line of the next item is that of all
pub left-bad : (items : List Item) (i number found : ℕ) (one : Item) (old mid : HomeState) → i < length items → one ≡ get_or items i one
    → HasDoneItems items i old mid → bad_in_item mid number one ≡ Some found
    → bad_line_from (query_of old) (Between (rest_state mid)) number (flat_map item_lines (drop i items)) ≡ Some found
left-bad items i number found one old mid less is h bad =
    let rest = flat_map item_lines (drop (i + 1) items) in
    ap (bad_line_from (query_of old) (Between (rest_state mid)) number) (left-lines items i one less is)
    ∙ ap (λ (q : Query). bad_line_from q (Between (rest_state mid)) number (item_lines one ++ rest)) (sym (done-query items i old mid h))
    ∙ bad-front (query_of mid) (Between (rest_state mid)) number found (item_lines one) rest bad

-- behind the last item nothing is left
pub left-none : (items : List Item) (i number : ℕ) (old mid : HomeState) → length items ≤ i
    → bad_line_from (query_of old) (Between (rest_state mid)) number (flat_map item_lines (drop i items)) ≡ None
unfolding bad_line_from
left-none items i number old mid all = ap (λ (xs : List Item). bad_line_from (query_of old) (Between (rest_state mid)) number (flat_map item_lines xs)) (drop_all i items all)

-- the head's line is good where the batches are those of the query
pub behind-head : (query : Query) (log : Log) → log.batch ≡ query.batch_size → illegal_line query log ≡ bad_behind_head query log.items
unfolding illegal_line bad_line_from
behind-head query log same =
    ap (λ (b : Bool). bad_or 1 (when b (Between (start_of query.flow))) (λ next. bad_line_from query next 2 (flat_map item_lines log.items))) (eq-eqb log.batch query.batch_size same)

-- ---- the replies

pub told-first : (query : Query) (tells : Bool) → [] ≡ told_of tells (transcript_of query [])
unfolding transcript_of replies
told-first query true = refl
told-first query false = refl

told-grown : (tells : Bool) (before reply all : List ℕ) → before ++ reply ≡ all → told_of tells before ++ told_of tells reply ≡ told_of tells all
told-grown true before reply all e = e
told-grown false before reply all e = refl

pub told-more : (items : List Item) (i : ℕ) (one : Item) (old mid : HomeState) (tells : Bool) (before after : List ℕ) → i < length items → one ≡ get_or items i one
    → HasDoneItems items i old mid → before ≡ told_of tells (transcript_of (query_of old) (take i items))
    → after ≡ before ++ told_of tells (reply_of (query_of mid) (rest_state mid) one)
    → after ≡ told_of tells (transcript_of (query_of old) (take (i + 1) items))
told-more items i one old mid tells before after less is h so e =
    let query = query_of old in
    let front = take i items in
    let reply : reply_of (query_of mid) (rest_state mid) one ≡ reply_of query (state_after query front) one =
    ap (λ (m : HomeState). reply_of (query_of m) (rest_state m) one) h.only in
    let grows : transcript_of query front ++ reply_of query (state_after query front) one ≡ transcript_of query (take (i + 1) items) =
    sym (transcripts_grow query front one).0 ∙ ap (transcript_of query) (sym (next-take items i one less is)) in
    e ∙ ap (λ (text : List ℕ). text ++ told_of tells (reply_of (query_of mid) (rest_state mid) one)) so
    ∙ ap (λ (text : List ℕ). told_of tells (transcript_of query front) ++ told_of tells text) reply
    ∙ told-grown tells (transcript_of query front) (reply_of query (state_after query front) one) (transcript_of query (take (i + 1) items)) grows

-- ---- all of them

pub all-done : (items : List Item) (i : ℕ) (old new : HomeState) → length items ≤ i → HasDoneItems items i old new
    → new ≡ record old { log = record old.log { items = items }; phase = new.phase; alone = new.alone; turned = new.turned }
all-done items i old new all h =
    h.only ∙ ap (λ (xs : List Item). record old { log = record old.log { items = xs }; phase = new.phase; alone = new.alone; turned = new.turned }) (take_all i items all)

pub all-rests : (items : List Item) (i : ℕ) (old new : HomeState) → length items ≤ i → HasDoneItems items i old new → ends_over false items ≡ false → new.phase ≡ phase.Resting
all-rests items i old new all h more = h.rests (ap (ends_over false) (take_all i items all) ∙ more)

pub all-told : (items : List Item) (i : ℕ) (query : Query) (tells : Bool) (text : List ℕ) → length items ≤ i → text ≡ told_of tells (transcript_of query (take i items))
    → text ≡ told_of tells (transcript_of query items)
all-told items i query tells text all so = so ∙ ap (λ (xs : List Item). told_of tells (transcript_of query xs)) (take_all i items all)
