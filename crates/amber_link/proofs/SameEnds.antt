-- What keeps the ends of links.
use Rattle.std.proofs.Common.{◌≡◌, ℕ, List, [], ◌∷◌, ◌++◌, get_or, refl, sym, ap, ◌∙◌, subst}
use Rattle.amber_rows.specs.declared.value.Value.{Value}
use Rattle.amber_rows.specs.declared.batch.Batch.{Batch}
use Rattle.amber_link.specs.Links.{SameOut}
use Rattle.amber_link.specs.Sides.{AreEnded, AreLooked, AreSameReceivers, AreSameSenders, IsEnded, HandsOn, IsLooked, IsSameReceiver, IsSameSender, IsTaken, Pairwise}
use Rattle.amber_link.specs.declared.upstreams.Upstream.{Upstream}
use Rattle.amber_link.specs.declared.downstreams.Downstream.{Downstream}
use Rattle.amber_link.proofs.LinkEnds.{same-in, same-in-then, same-out, same-out-then}
use Rattle.amber_link.proofs.Sides.{get_or-any, pairwise-refl, pairwise-set, pairwise-then}

sender-same : (one : Upstream) → IsSameSender one one
sender-same one = record { from = refl; link = same-in one.link }

sender-then : (a b c : Upstream) → IsSameSender a b → IsSameSender b c → IsSameSender a c
sender-then a b c one two = record { from = two.from ∙ one.from; link = same-in-then a.link b.link c.link one.link two.link }

receiver-same : (one : Downstream) → IsSameReceiver one one
receiver-same one = record { to = refl; link = same-out one.link }

receiver-then : (a b c : Downstream) → IsSameReceiver a b → IsSameReceiver b c → IsSameReceiver a c
receiver-then a b c one two = record { to = two.to ∙ one.to; link = same-out-then a.link b.link c.link one.link two.link }

pub senders-same : (ins : List Upstream) → AreSameSenders ins ins
senders-same ins = pairwise-refl IsSameSender sender-same ins

pub senders-then : (a b c : List Upstream) → AreSameSenders a b → AreSameSenders b c → AreSameSenders a c
senders-then a b c one two = pairwise-then IsSameSender sender-then a b c one two

pub receivers-same : (outs : List Downstream) → AreSameReceivers outs outs
receivers-same outs = pairwise-refl IsSameReceiver receiver-same outs

pub receivers-then : (a b c : List Downstream) → AreSameReceivers a b → AreSameReceivers b c → AreSameReceivers a c
receivers-then a b c one two = pairwise-then IsSameReceiver receiver-then a b c one two

-- the same relation of the same lists, weaker
pub pairwise-weaker : {A : Type 0} (R S : A → A → Type 0) → ((x y : A) → R x y → S x y) → (xs ys : List A) → Pairwise R xs ys → Pairwise S xs ys
unfolding Pairwise
pairwise-weaker R S to [] [] h = tt
pairwise-weaker R S to [] (y ∷ ys) h = absurd h
pairwise-weaker R S to (x ∷ xs) [] h = absurd h
pairwise-weaker R S to (x ∷ xs) (y ∷ ys) h = (to x y h.0, pairwise-weaker R S to xs ys h.1)

-- ---- what calls do

pub looked-ends : (old new : List Upstream) → AreLooked old new → AreSameSenders old new
looked-ends old new h = pairwise-weaker IsLooked IsSameSender (λ x y looked. record { from = ap (λ (s : Upstream). s.from) looked.only; link = looked.gives.ring }) old new h

middle : (front back : List Upstream) (one now : Upstream) → IsSameSender one now → AreSameSenders (front ++ one ∷ back) (front ++ now ∷ back)
unfolding Pairwise
middle [] back one now h = (h, senders-same back)
middle (first ∷ front) back one now h = (sender-same first, middle front back one now h)

pub taken-ends : (ins after : List Upstream) (one : Upstream) (batch : Batch) → IsTaken ins one batch after → AreSameSenders ins after
taken-ends ins after one batch taken =
    subst (λ l. AreSameSenders l after) (sym taken.found)
    (subst (λ l. AreSameSenders (taken.front ++ one ∷ taken.back) l) (sym taken.after_it)
    (middle taken.front taken.back one taken.now (record { from = ap (λ (s : Upstream). s.from) taken.is; link = taken.gives.ring })))

same-ring : (a b : Downstream) → b.link.ring ≡ a.link.ring → SameOut a.link b.link
same-ring a b e = rw e ((refl, refl, refl, refl), refl)

pub handed-ends : (place : ℕ) (row : List Value) (outs after : List Downstream) → HandsOn place row outs after → AreSameReceivers outs after
handed-ends place row outs after h =
    subst (λ l. AreSameReceivers outs l) (sym h.is)
    (pairwise-set IsSameReceiver receiver-same outs place h.now h.within
    (λ d. subst (λ one. IsSameReceiver one h.now) (get_or-any outs place h.now d h.within) (record { to = h.to; link = same-ring (get_or outs place h.now) h.now h.ring })))

pub ended-ends : (outs after : List Downstream) → AreEnded outs after → AreSameReceivers outs after
ended-ends outs after h = pairwise-weaker IsEnded IsSameReceiver (λ x y ends. record { to = ends.to; link = same-ring x y ends.ring }) outs after h
