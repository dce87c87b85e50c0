-- The bytes behind those that were read are read.
use Rattle.std.proofs.Common.{◌≡◌, ◌+◌, ◌∙◌, ◌++◌, ℕ, length, IfOk, ap, subst, sym, refl, rules}
use Rattle.std.specs.Prelude.{Vec}
use Rattle.std.specs.declared.alloc.Global.{Global}
use Rattle.amber_session.specs.Answers.{Stretch}
use Rattle.amber_session.specs.Dialogue.{IsReadTo, ReadsLines}
use Rattle.amber_session.specs.declared.dialogue.Dialogue.{Dialogue}
use Rattle.amber_session.proofs.Going.{going-fed}
use Rattle.amber_session.proofs.dialogue.Dialogue.feed.Goals as goal

pub returns-clause-going : goal.returns-clause-going
returns-clause-going g c =
    let old : Dialogue = c.args.self.now in
    let new : Dialogue = record { alloc = c.args.self.now.alloc; debugger = c.read_bytes.new.debugger; log_name = c.args.self.now.log_name; input = c.read_bytes.new.input } in
    let same = c.read_bytes.ensures.bytes in
    let bytes : new.input.bytes.items ≡ old.input.bytes.items ++ c.args.piece.now = ap (λ v. v.items) same ∙ c.in_ok-extend_from_slice.ensures.items in
    let s : Stretch = record {
      name = c.new-recorder.result.log_name.now;
      number = c.args.self.now.input.lines + 1;
      old = c.args.self.now.debugger;
      new = c.read_bytes.new.debugger;
      before = g.W.Outside.world c.new-recorder.result.outside.now;
      after = g.W.Outside.world c.read_bytes.new.recorder.outside.now;
    } in
    let size : c.len-from.result ≡ length old.input.bytes.items = search rules in
    going-fed c.read_bytes.result old new s c.args.piece.now c.requires.going bytes refl refl (rw bytes c.requires.few)
    (subst (λ (b : Vec ℕ Global). IfOk c.read_bytes.result (λ done. IsReadTo new.input (length b.items))) (sym same) c.read_bytes.ensures.read)
    c.read_bytes.ensures.sound
    (subst (λ (b : Vec ℕ Global). ReadsLines c.read_bytes.result s (record { text = b.items; from = length old.input.bytes.items; to = length b.items })) (sym same)
    (rw size at c.read_bytes.ensures.reads))
