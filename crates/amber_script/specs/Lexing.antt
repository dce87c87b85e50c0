-- What one byte does to the word that is being read.
use Rattle.std.specs.Prelude.{◌≡◌, ℕ, List, [], ◌∷◌, ◌++◌, Option, None, option_map, Bool, true, false, ⊤}
use Rattle.std.specs.List.{onto_first}
use Rattle.amber_script.specs.Words.{words_from}
use Rattle.amber_script.specs.declared.lexer.Lexer.{Lexer}
use Rattle.amber_script.specs.declared.place.Place.{Place}
use Rattle.amber_script.specs.declared.place.Place.TheVariants.{Between, Bare, Quoted, Escape, Closed}
use Rattle.amber_script.specs.declared.place.Turn.{Turn}
use Rattle.amber_script.specs.declared.place.Turn.TheVariants.{Go, Add, End, Wrong}

-- the words of the rest after such a byte
abbrev pub words_behind : Turn → List ℕ → Option (List (List ℕ))
words_behind (Go place) rest = words_from place rest
words_behind (Add byte place) rest = option_map (onto_first byte) (words_from place rest)
words_behind End rest = option_map (λ words. [] ∷ words) (words_from Between rest)
words_behind Wrong rest = None

abbrev pub is_between : Place → Bool
is_between Between = true
is_between Bare = false
is_between Quoted = false
is_between Escape = false
is_between Closed = false

-- between words nothing of a word has been read
abbrev pub KeepsClear : Place → Turn → Type 0
KeepsClear place (Go next) = is_between next ≡ true → is_between place ≡ true
KeepsClear place (Add byte next) = is_between next ≡ false
KeepsClear place End = ⊤
KeepsClear place Wrong = ⊤

-- bytes before the first word
abbrev pub onto_word : List ℕ → List (List ℕ) → List (List ℕ)
onto_word [] words = words
onto_word (byte ∷ bytes) words = onto_first byte (onto_word bytes words)

-- the words read so far, then those whose first goes on the word that has begun
abbrev pub with_words : List (List ℕ) → List ℕ → Option (List (List ℕ)) → Option (List (List ℕ))
with_words words begun more = option_map (λ rest. words ++ onto_word begun rest) more

-- the words of a line of which this has been read, and this is left
abbrev pub words_with : Lexer → List ℕ → Option (List (List ℕ))
words_with lexer rest = with_words lexer.words.items lexer.begun.items (words_from lexer.place rest)

-- between words no word has begun
abbrev pub IsClear : Lexer → Type 0
IsClear lexer = is_between lexer.place ≡ true → lexer.begun.items ≡ []

-- a byte that may stand there is read; after another there are no words
abbrev pub Reads : Bool → ℕ → Lexer → Lexer → Type 0
Reads true byte before behind = (rest : List ℕ) → words_with before (byte ∷ rest) ≡ words_with behind rest
Reads false byte before behind = (rest : List ℕ) → words_with before (byte ∷ rest) ≡ None
