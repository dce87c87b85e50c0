-- What stood at the place is taken, and nothing unread is put there.
use Rattle.std.proofs.Common.{◌-◌, ◌∙◌, List, [], ap, arith, set, sym}
use Rattle.std.proofs.lemmas.List.{get_or_read}
use Rattle.amber_rows.specs.declared.value.Value.{Value}
use Rattle.amber_plain.specs.Unread.{Waiting, nothing_unread}
use Rattle.amber_plain.specs.declared.stage.Source.TheVariants as source
use Rattle.amber_plain.proofs.Waits.{unread_at-is}
use Rattle.amber_plain.proofs.unread.take.Goals as goal

pub overflow_sub-op : goal.overflow_sub-op
overflow_sub-op c = c.requires.0

pub index_mut-place-requires : goal.index_mut-place-requires
index_mut-place-requires c = omega (arith, c.requires.0, c.requires.1, c.args.waiting.now.ok.0)

pub returns : goal.returns
returns c =
    let waiting = c.args.waiting.now.items in
    let op = c.args.op in
    let empty : List (List Value) → Waiting = λ rows. record { source = source.Rows rows; stages = [] } in
    record {
      taken = c.replace.ensures.value ∙ get_or_read waiting (op - 1) _ (omega (arith, c.requires.0, c.requires.1)) c.index_mut-place.ensures.value nothing_unread ∙ sym (unread_at-is waiting op c.requires.0);
      others = ap (λ (new : Waiting). set waiting (op - 1) new) (c.replace.ensures.after ∙ c.new-3.ensures ∙ ap empty (c.new-2.ensures ∙ c.new.ensures.items));
    }
