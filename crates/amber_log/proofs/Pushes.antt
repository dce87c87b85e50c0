-- One entry or one item more at the end.
use Rattle.std.proofs.Common.{◌≡◌, ℕ, ◌&&◌, ◌++◌, Bool, false, List, [], ◌∷◌, refl, sym, ap, ◌∙◌, append_assoc, append-nil}
use Rattle.std.specs.List.{flat_map}
use Rattle.std.proofs.lemmas.List.Concat.{flat_map-append}
use Rattle.amber_log.specs.Grammar.{AreEntries, AreItems, IsEntry, IsItem, IsLog, ends_go, ends_over, is_go, is_last}
use Rattle.amber_log.specs.LogText.{head_text, item_text, log_text}
use Rattle.amber_log.specs.declared.entry.Entry.{Entry}
use Rattle.amber_log.specs.declared.log.Item.{Item}
use Rattle.amber_log.specs.declared.log.Log.{Log}

pub AreEntries-push : (gone : Bool) (entries : List Entry) (last : Entry) → AreEntries gone entries → IsEntry last → (ends_go gone entries && is_go last) ≡ false
    → AreEntries gone (entries ++ last ∷ [])
unfolding AreEntries
AreEntries-push gone [] last h is may = (is, may, tt)
AreEntries-push gone (entry ∷ entries) last h is may = (h.0, h.1, AreEntries-push (is_go entry) entries last h.2 is may)

pub ends_go-push : (gone : Bool) (entries : List Entry) (last : Entry) → ends_go gone (entries ++ last ∷ []) ≡ is_go last
ends_go-push gone [] last = refl
ends_go-push gone (entry ∷ entries) last = ends_go-push (is_go entry) entries last

pub AreItems-push : (over : Bool) (items : List Item) (last : Item) → AreItems over items → IsItem last → ends_over over items ≡ false
    → AreItems over (items ++ last ∷ [])
unfolding AreItems
AreItems-push over [] last h is may = (may, is, tt)
AreItems-push over (one ∷ items) last h is may = (h.0, h.1, AreItems-push (is_last one) items last h.2 is may)

pub ends_over-push : (over : Bool) (items : List Item) (last : Item) → ends_over over (items ++ last ∷ []) ≡ is_last last
ends_over-push over [] last = refl
ends_over-push over (one ∷ items) last = ends_over-push (is_last one) items last

-- the log with one item more
abbrev pub with_item : Log → Item → Log
with_item log one = record { batch = log.batch; items = log.items ++ one ∷ [] }

pub IsLog-push : (log : Log) (last : Item) → IsLog log → IsItem last → ends_over false log.items ≡ false → IsLog (with_item log last)
IsLog-push log last h is may = record { batch = h.batch; items = AreItems-push false log.items last h.items is may }

pub log_text-push : (log : Log) (last : Item) → log_text (with_item log last) ≡ log_text log ++ item_text last
unfolding log_text
log_text-push log last =
    ap (λ (text : List ℕ). head_text log.batch ++ text)
    (flat_map-append item_text log.items (last ∷ []) ∙ ap (λ (text : List ℕ). flat_map item_text log.items ++ text) (append-nil (item_text last)))
    ∙ sym (append_assoc (head_text log.batch) (flat_map item_text log.items) (item_text last))

-- the text of a log without items
pub log_text-head : (batch : ℕ) → log_text (record { batch = batch; items = [] }) ≡ head_text batch
unfolding log_text
log_text-head batch = append-nil (head_text batch)
