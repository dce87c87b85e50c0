-- The two ends of a mail over two rings: what went in at each, and what has come to the other.
use Rattle.std.specs.Prelude.{◌≡◌, ◌++◌, ◌∷◌, ◌⊎◌, [], ℕ, List, Some, count_by}
use Rattle.rtrb.specs.Ring.{IsPair, SameConsumer, SameProducer, known_free, known_items, received, sent}
use Rattle.amber_mail.specs.Controls.{is_pause}
use Rattle.amber_mail.specs.declared.mail.Control.{Control}
use Rattle.amber_mail.specs.declared.mail.Note.{Note}
use Rattle.amber_mail.specs.declared.rings.Post.{Post}
use Rattle.amber_mail.specs.declared.rings.RingMail.{RingMail}

-- ---- the coordinator's end

-- every control that was pushed, and how many slots are known to be free for more
abbrev pub sent_controls : Post → List Control
sent_controls post = sent post.controls

abbrev pub free_slots : Post → ℕ
free_slots post = known_free post.controls

-- every note that was heard, and those that are known to wait
abbrev pub heard_notes : Post → List Note
heard_notes post = received post.notes

abbrev pub waiting_notes : Post → List Note
waiting_notes post = known_items post.notes

-- ---- the worker's end

-- every control by which a look was answered, and those that are known to wait
abbrev pub taken_controls : RingMail → List Control
taken_controls mail = received mail.controls

abbrev pub waiting_controls : RingMail → List Control
waiting_controls mail = known_items mail.controls

-- how many of the first were a pause
abbrev pub pauses_taken : RingMail → ℕ
pauses_taken mail = count_by (λ control. is_pause (Some control)) (taken_controls mail)

-- every note that was handed on, and how many slots are known to be free for more
abbrev pub sent_notes : RingMail → List Note
sent_notes mail = sent mail.notes

abbrev pub free_note_slots : RingMail → ℕ
free_note_slots mail = known_free mail.notes

-- ---- both

-- the two ends of one mail
abbrev pub AreMailEnds : Post → RingMail → Type 0
AreMailEnds post mail = IsPair post.controls mail.controls × IsPair mail.notes post.notes

-- the same end
abbrev pub SamePost : Post → Post → Type 0
SamePost old new = SameProducer old.controls new.controls × SameConsumer old.notes new.notes

abbrev pub SameMail : RingMail → RingMail → Type 0
SameMail old new = SameConsumer old.controls new.controls × SameProducer old.notes new.notes

-- a note was handed on, or no slot for it is known to be free
abbrev pub HandsNoteOn : RingMail → Note → RingMail → Type 0
HandsNoteOn old note new =
    (sent_notes new ≡ sent_notes old ++ note ∷ []) ⊎ ((sent_notes new ≡ sent_notes old) × (free_note_slots new ≡ 0))
