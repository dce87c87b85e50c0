-- A link of two lists of ends is settled.
use Rattle.std.proofs.Common.{◌≡◌, ℕ, zero, suc, ◌<◌, ◌||◌, ◌&&◌, not, arith, List, [], ◌∷◌, length, get_or, map, set, Bool, true, refl, sym, ap, ◌∙◌, subst}
use Rattle.amber_link.specs.Links.{AreLinked, AreSettled, Forwards, GivesBatches, IsWhole}
use Rattle.amber_link.specs.Outgoing.{Outgoing}
use Rattle.amber_link.specs.Sides.{Settles, have_builders_ended, without_room}
use Rattle.amber_link.specs.declared.ends.Out.{Out}
use Rattle.amber_link.specs.declared.ends.In.{In}
use Rattle.amber_link.specs.declared.upstreams.Upstream.{Upstream}
use Rattle.amber_link.specs.declared.downstreams.Downstream.{Downstream}
use Rattle.amber_link.proofs.Carried.{carries-roomy}
use Rattle.amber_link.proofs.Sides.{get_or-any, map-at, map-set}

abbrev erased : Out → Out
erased out = record out { kept = record out.kept { room = 0 } }

forwards-erased : (a b : Out) → Forwards a b → Forwards (erased a) (erased b)
forwards-erased a b h = record { ring = h.ring; only = ap (λ (o : Outgoing). record o { room = 0 }) h.only; order = h.order }

whole-erased : (a : Out) (b : In) → IsWhole a b → IsWhole (erased a) b
whole-erased a b h = record {
  beyond = h.beyond;
  chunks = λ had taken pushed carries has. h.chunks had taken pushed (carries-roomy (erased a).kept a.kept _ pushed refl carries) has;
}

settled-erased : (a : Out) (b : In) → AreSettled a b → AreSettled (erased a) b
settled-erased a b h = record {
  outbox = h.outbox;
  ring = h.ring;
  known = h.known;
  chunks = λ had taken pushed carries has. h.chunks had taken pushed (carries-roomy (erased a).kept a.kept _ pushed refl carries) has;
}

pub settles-there : (all : Bool) (outs : List Downstream) (j : ℕ) (ins : List Upstream) (k : ℕ) (one : Downstream) (other : Upstream) (out : Out) (into : In) → j < length outs → k < length ins
    → AreLinked out into → Forwards (get_or outs j one).link out → GivesBatches (get_or ins k other).link [] into → IsWhole (get_or outs j one).link (get_or ins k other).link
    → (all ≡ true → AreSettled out into)
    → Settles all (record { from = j; to = k }) (record { outs = map without_room outs; ins = ins })
    (record { outs = map without_room (set outs j (record (get_or outs j one) { link = out })); ins = set ins k (record (get_or ins k other) { link = into }) })
settles-there all outs j ins k one other out into j_less k_less linked forwards gives whole settled =
    let now : Downstream = record (get_or outs j one) { link = erased out } in
    let then_in : Upstream = record (get_or ins k other) { link = into } in
    let there : get_or (map without_room outs) j now ≡ without_room (get_or outs j one) = map-at without_room outs j one now j_less in
    let here : get_or ins k then_in ≡ get_or ins k other = get_or-any ins k then_in other k_less in
    record {
      out = now;
      into = then_in;
      outs_is = map-set without_room outs j (record (get_or outs j one) { link = out }) ∙ ap (λ (r : Downstream). set (map without_room outs) j (record r { link = erased out })) (sym there);
      ins_is = ap (λ (s : Upstream). set ins k (record s { link = into })) (sym here);
      linked = linked;
      forwards = subst (λ (r : Downstream). Forwards r.link (erased out)) (sym there) (forwards-erased (get_or outs j one).link out forwards);
      gives = subst (λ (s : Upstream). GivesBatches s.link [] into) (sym here) gives;
      whole = subst (λ (r : Downstream). IsWhole r.link (get_or ins k then_in).link) (sym there)
          (subst (λ (s : Upstream). IsWhole (erased (get_or outs j one).link) s.link) (sym here) (whole-erased (get_or outs j one).link (get_or ins k other).link whole));
      settled = λ e. settled-erased out into (settled e);
    }

-- as many of the build side have ended
pub built-same : (ins : List Upstream) (k : ℕ) (d : Upstream) (into : In) → k < length ins → have_builders_ended (set ins k (record (get_or ins k d) { link = into })) ≡ have_builders_ended ins
built-same [] k d into less = absurd (omega arith)
built-same (one ∷ ins) zero d into less = refl
built-same (one ∷ ins) (suc k) d into less = ap (λ b. (not one.builds || one.ended) && b) (built-same ins k d into (omega arith))
