-- Words that read as a line are the words of that line.
use Rattle.std.proofs.Common.{◌≡◌, ℕ, ◌+◌, ◌^◌, ◌<◌, List, [], ◌∷◌, Some, None, arith, option_map}
use Rattle.std.specs.Prelude.{IfSome, codes, nat_lt, option_and_then}
use Rattle.std.proofs.lemmas.Bool.{cond_both, ltb-true}
use Rattle.amber_log.specs.Commands.{Action, AtRest, Leg, action_of}
use Rattle.amber_log.specs.Grammar.{HasWords, IsLine}
use Rattle.amber_log.specs.ReadWords.{command_in, head_line, line_by, line_of, line_one, line_three, line_two, moving, with_two}
use Rattle.amber_log.specs.Operands.{above_zero, number}
use Rattle.amber_log.specs.Commands.{command_named}
use Rattle.amber_log.specs.Words.{action_words, words_of}
use Rattle.amber_log.specs.declared.entry.Entry.TheVariants as entry
use Rattle.amber_log.specs.declared.line.Line.{Line}
use Rattle.amber_log.specs.declared.line.Line.TheVariants as line
use Rattle.amber_log.proofs.FoundOperands.{mapped, chained, loosened, word, number-found, positive-found, IsNumber}
use Rattle.amber_log.proofs.Named.{Says, command_named-found}

-- ---- lines

-- these are the words of this line
abbrev pub Spells : List (List ℕ) → Line → Type 0
Spells words one = (words ≡ words_of one) × IsLine one

line_one-found : (a : List ℕ) → IfSome (line_one a) (Spells (a ∷ []))
unfolding line_one
line_one-found a =
    word (Spells (a ∷ [])) a (codes "run") _ _ (λ e. (cc e, tt))
    (word (Spells (a ∷ [])) a (codes "end") _ _ (λ e. (cc e, tt))
    (word (Spells (a ∷ [])) a (codes "p") _ _ (λ e. (cc e, tt))
    (word (Spells (a ∷ [])) a (codes "r") _ _ (λ e. (cc e, tt))
    (word (Spells (a ∷ [])) a (codes "h") _ _ (λ e. (cc e, tt))
    (word (Spells (a ∷ [])) a (codes "f") _ _ (λ e. (cc e, tt))
    (word (Spells (a ∷ [])) a (codes "cut") _ _ (λ e. (cc e, tt))
    (word (Spells (a ∷ [])) a (codes "long") _ _ (λ e. (cc e, tt)) tt)))))))

line_two-found : (a b : List ℕ) → IfSome (line_two a b) (Spells (a ∷ b ∷ []))
unfolding line_two
line_two-found a b =
    word (Spells (a ∷ b ∷ [])) a (codes "w") _ _
    (λ e. mapped (number (2 ^ 32) b) (IsNumber (2 ^ 32) b) (λ worker. line.Worker worker) (Spells (a ∷ b ∷ [])) (number-found (2 ^ 32) b) (λ n h. (cc (e, h.0), h.1)))
    (word (Spells (a ∷ b ∷ [])) a (codes "a") _ _
    (λ e. mapped (option_and_then above_zero (number (2 ^ 64) b)) (λ n. IsNumber (2 ^ 64) b n × (0 < n)) (λ n. line.Entry (entry.Grant n)) (Spells (a ∷ b ∷ []))
    (positive-found (2 ^ 64) b) (λ n h. (cc (e, h.0.0), (h.1, h.0.1))))
    (word (Spells (a ∷ b ∷ [])) a (codes "b") _ _
    (λ e. mapped (option_and_then above_zero (number (2 ^ 64) b)) (λ n. IsNumber (2 ^ 64) b n × (0 < n)) (λ n. line.Entry (entry.Back n)) (Spells (a ∷ b ∷ []))
    (positive-found (2 ^ 64) b) (λ n h. (cc (e, h.0.0), (h.1, h.0.1))))
    tt))

-- what is made of two numbers
with_two-found : {A : Type 0} (make : ℕ → ℕ → A) (first_limit second_limit : ℕ) (first second : List ℕ) (Q : A → Type 0)
    → ((m n : ℕ) → IsNumber first_limit first m → IsNumber second_limit second n → Q (make m n)) → IfSome (with_two make first_limit second_limit first second) Q
with_two-found make first_limit second_limit first second Q each =
    chained (number first_limit first) (IsNumber first_limit first) (λ m. option_map (λ n. make m n) (number second_limit second)) Q (number-found first_limit first)
    (λ m h. mapped (number second_limit second) (IsNumber second_limit second) (λ n. make m n) Q (number-found second_limit second) (λ n h'. each m n h h'))

moving-found : (a b c : List ℕ) (rows outs : ℕ) → a ≡ codes "g" → IsNumber (2 ^ 64) b rows → IsNumber (2 ^ 64) c outs → IfSome (moving rows outs) (Spells (a ∷ b ∷ c ∷ []))
moving-found a b c rows outs e h h' =
    cond_both (nat_lt 0 (rows + outs)) (Some (line.Entry (entry.Go rows outs))) None (λ o. IfSome o (Spells (a ∷ b ∷ c ∷ [])))
    (λ some. (cc (e, h.0, h'.0), (h.1, h'.1, ltb-true 0 (rows + outs) some)))
    (λ none. tt)

head_line-found : (a b c : List ℕ) → a ≡ codes "amber" → IfSome (head_line b c) (Spells (a ∷ b ∷ c ∷ []))
unfolding head_line
head_line-found a b c amber =
    word (Spells (a ∷ b ∷ c ∷ [])) b (codes "1") _ _
    (λ e. mapped (option_and_then above_zero (number 65537 c)) (λ n. IsNumber 65537 c n × (0 < n)) (λ n. line.Head n) (Spells (a ∷ b ∷ c ∷ [])) (positive-found 65537 c)
    (λ n h. (cc (amber, e, h.0.0), (h.1, omega (arith, h.0.1)))))
    tt

line_three-found : (a b c : List ℕ) → IfSome (line_three a b c) (Spells (a ∷ b ∷ c ∷ []))
unfolding line_three
line_three-found a b c =
    word (Spells (a ∷ b ∷ c ∷ [])) a (codes "t") _ _
    (λ e. with_two-found (λ sender batch. line.Entry (entry.Take sender batch)) (2 ^ 32) (2 ^ 64) b c (Spells (a ∷ b ∷ c ∷ [])) (λ m n h h'. (cc (e, h.0, h'.0), (h.1, h'.1))))
    (word (Spells (a ∷ b ∷ c ∷ [])) a (codes "g") _ _
    (λ e. chained (number (2 ^ 64) b) (IsNumber (2 ^ 64) b) (λ rows. option_and_then (moving rows) (number (2 ^ 64) c)) (Spells (a ∷ b ∷ c ∷ [])) (number-found (2 ^ 64) b)
    (λ rows h. chained (number (2 ^ 64) c) (IsNumber (2 ^ 64) c) (moving rows) (Spells (a ∷ b ∷ c ∷ [])) (number-found (2 ^ 64) c) (λ outs h'. moving-found a b c rows outs e h h')))
    (word (Spells (a ∷ b ∷ c ∷ [])) a (codes "amber") _ _ (λ e. head_line-found a b c e)
    tt))

line_by-found : (a : List ℕ) (words : List (List ℕ)) → IfSome (line_by a words) (Spells (a ∷ words))
line_by-found a [] = line_one-found a
line_by-found a (b ∷ []) = line_two-found a b
line_by-found a (b ∷ c ∷ []) = line_three-found a b c
line_by-found a (b ∷ c ∷ d ∷ more) = tt

-- ---- commands

-- these words are a command's
abbrev AreOf : List (List ℕ) → Action → Type 0
AreOf words action = (words ≡ action_words action) × HasWords action

words_of_action : (name op : List ℕ) (n : ℕ) (words : List (List ℕ)) (action : Action) → IsNumber (2 ^ 32) op n → Says name n words action → AreOf (name ∷ op ∷ words) action
words_of_action name op n words (Leg to_end) is h = absurd h
words_of_action name op n words (AtRest effect) is h = (cc (h.0, h.1, h.2.0, is.0), (omega (arith, h.1, is.1), h.2.1))

command_of-found : (words : List (List ℕ)) → IfSome (command_in words) (λ one. AreOf words (action_of one))
unfolding command_in
command_of-found [] = tt
command_of-found (name ∷ []) = tt
command_of-found (name ∷ op ∷ words) =
    chained (number (2 ^ 32) op) (IsNumber (2 ^ 32) op) (λ n. command_named name n words) (λ one. AreOf (name ∷ op ∷ words) (action_of one)) (number-found (2 ^ 32) op)
    (λ n is. loosened (command_named name n words) (λ one. Says name n words (action_of one)) (λ one. AreOf (name ∷ op ∷ words) (action_of one)) (command_named-found name n words)
    (λ one h. words_of_action name op n words (action_of one) is h))

-- words that read as a line are the words of that line
pub line_of-found : (words : List (List ℕ)) → IfSome (line_of words) (Spells words)
unfolding line_of
line_of-found [] = tt
line_of-found (a ∷ words) =
    word (Spells (a ∷ words)) a (codes "do") (option_map (λ one. line.Do one) (command_in words)) (line_by a words)
    (λ e. mapped (command_in words) (λ one. AreOf words (action_of one)) (λ one. line.Do one) (Spells (a ∷ words)) (command_of-found words) (λ one h. (cc (e, h.0), h.1)))
    (line_by-found a words)
