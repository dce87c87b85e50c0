-- There is no piece, or it is too large, or it is fed.
use Rattle.std.proofs.Common.{◌≡◌, ◌<◌, ◌≤◌, ◌++◌, ◌∙◌, [], Err, ap, arith, length, refl, rules, sym}
use Rattle.std.proofs.lemmas.Bool.{eqb-false, eqb-true}
use Rattle.amber_session.specs.Dialogue.{most_input}
use Rattle.amber_session.specs.declared.halt.Halt.TheVariants as halt
use Rattle.amber_session.proofs.Running.{feed-cuts, has-fed, is-empty, large-cuts, none-fed, piece-cuts}
use Rattle.amber_session.proofs.run.feed_piece.Goals as goal

pub returns-in_err-piece-clause-feeds : goal.returns-in_err-piece-clause-feeds
returns-in_err-piece-clause-feeds g c =
    let h = c.in_err-piece.field-0.0 in
    let e : c.from_residual.result ≡ Err h = search rules in
    rw e (piece-cuts h _ c.requires.going c.in_err-piece.ensures.pieceless c.in_err-piece.ensures.gives refl)

pub returns-then-is_empty-clause-feeds : goal.returns-then-is_empty-clause-feeds
returns-then-is_empty-clause-feeds g c =
    let size : length c.in_ok-piece.piece.items ≡ 0 = omega (arith, eqb-true _ _ (sym c.is_empty.ensures ∙ c.if-is_empty.true), c.in_ok-piece.piece.ok.0) in
    let none = is-empty c.in_ok-piece.piece.items size in
    (none-fed _ c.in_ok-piece.piece.items c.in_ok-piece.ensures.gives.0 none refl refl, c.in_ok-piece.ensures.gives.1 none)

pub returns-then-not-has_room-clause-feeds : goal.returns-then-not-has_room-clause-feeds
returns-then-not-has_room-clause-feeds g c =
    let much : most_input < length (c.args.dialogue.now.input.bytes.items ++ c.in_ok-piece.piece.items) = search rules in
    large-cuts _ c.in_ok-piece.piece.items c.in_ok-piece.ensures.gives.0 much refl

pub returns-in_err-feed-clause-feeds : goal.returns-in_err-feed-clause-feeds
returns-in_err-feed-clause-feeds g c =
    let f = c.in_err-feed.field-0.0 in
    let e : c.from_residual-in_err-feed.result ≡ Err (halt.Failure f) = search rules in
    let few : length (c.args.dialogue.now.input.bytes.items ++ c.in_ok-piece.piece.items) ≤ most_input = search rules in
    rw e (feed-cuts f _ c.in_ok-piece.piece.items c.in_ok-piece.ensures.gives.0 c.requires.going few (rw c.as_slice-2.ensures.value at c.in_err-feed.ensures.feeds)
    c.in_err-feed.ensures.legal)

pub returns-clause-feeds : goal.returns-clause-feeds
returns-clause-feeds g c =
    let some : c.in_ok-piece.piece.items ≡ [] → ⊥ = λ e. let size = ap length e in omega (arith, size, eqb-false _ _ (sym c.is_empty.ensures ∙ c.if-is_empty.false), c.in_ok-piece.piece.ok.0) in
    let done = c.in_ok-feed.ensures in (
      c.in_ok-piece.piece.items,
      has-fed _ c.in_ok-piece.piece.items c.in_ok-piece.ensures.gives.0 (rw c.as_slice-2.ensures.value at done.feeds) (rw c.as_slice-2.ensures.value at done.fed) done.name done.going,
      some,
    )
