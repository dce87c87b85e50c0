-- Room is no matter.
use Rattle.std.proofs.Common.{◌∙◌, ap, Option, Some, None}
use Rattle.std.specs.Option.{IfNone, IfSome}
use Rattle.amber_link.specs.Links.{has_some}
use Rattle.amber_link.specs.Sides.{without_room}
use Rattle.amber_link.specs.declared.downstreams.Downstream.{Downstream}
use Rattle.amber_link.proofs.Sides.{map-at, map-length}
use Rattle.amber_worker.proofs.worker.Worker.waiting_at.Goals as goal

if_none : {A : Type 0} (o : Option A) (P Q : Type 0) → (P → Q) → IfNone o P → IfNone o Q
if_none None P Q f h = f h
if_none (Some x) P Q f h = tt

if_some : {A : Type 0} (o : Option A) (P Q : A → Type 0) → ((x : A) → P x → Q x) → IfSome o P → IfSome o Q
if_some None P Q f h = tt
if_some (Some x) P Q f h = f x h

pub waiting_at-requires : goal.waiting_at-requires
waiting_at-requires c =
    let there = rw (← c.self.view_is) at c.requires in
    rw (c.as_slice.ensures.value) (rw map-length at there)

pub returns-clause-none : goal.returns-clause-none
returns-clause-none c =
    let none = rw c.as_slice.ensures.value at c.waiting_at.ensures.none in
    let there = rw map-length at (rw (← c.self.view_is) at c.requires) in
    rw (← c.self.view_is)
    (if_none c.waiting_at.result _ _
    (λ none (d : Downstream). ap (λ (one : Downstream). has_some one.link.kept.waiting) (map-at without_room c.self.inside.outs.items c.args.place d d there) ∙ none d) none)

pub returns-clause-some : goal.returns-clause-some
returns-clause-some c =
    let some = rw c.as_slice.ensures.value at c.waiting_at.ensures.some in
    let there = rw map-length at (rw (← c.self.view_is) at c.requires) in
    rw (← c.self.view_is)
    (if_some c.waiting_at.result _ _
    (λ to own (d : Downstream). ap (λ (one : Downstream). one.to) (map-at without_room c.self.inside.outs.items c.args.place d d there) ∙ own d) some)
