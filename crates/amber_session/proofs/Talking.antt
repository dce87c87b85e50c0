-- What is said to lines, when more of them come.
use Rattle.std.proofs.Common.{◌≡◌, ℕ, suc, ◌+◌, List, [], ◌∷◌, ◌++◌, length, refl, sym, ap, ◌∙◌, arith, append_assoc}
use Rattle.amber_rows.specs.declared.flow.Operator.{Operator}
use Rattle.amber_log.specs.declared.log.Item.{Item}
use Rattle.amber_meaning.specs.Legal.{Query}
use Rattle.amber_meaning.specs.Replay.{after_item, after_items}
use Rattle.amber_meaning.specs.State.{State}
use Rattle.amber_meaning.specs.Transcript.{reply_of}
use Rattle.amber_script.specs.Script.{said_by}
use Rattle.amber_script.specs.declared.script_line.ScriptLine.{ScriptLine}
use Rattle.amber_script.specs.declared.script_line.ScriptLine.TheVariants as script_line
use Rattle.amber_session.specs.Talk.{accepted, command_in_line, refused_text, replies_to, said_to, talk_from}

pub accepted-append : (flow : List Operator) (xs ys : List (List ℕ)) → accepted flow (xs ++ ys) ≡ accepted flow xs ++ accepted flow ys
unfolding accepted
accepted-append flow [] ys = refl
accepted-append flow (x ∷ xs) ys =
    ap (λ commands. command_in_line (said_by flow x) ++ commands) (accepted-append flow xs ys) ∙ sym (append_assoc (command_in_line (said_by flow x)) (accepted flow xs) (accepted flow ys))

pub talk-append : (flow : List Operator) (number : ℕ) (xs ys replies more : List (List ℕ)) → length replies ≡ length (accepted flow xs)
    → talk_from flow number (xs ++ ys) (replies ++ more) ≡ talk_from flow number xs replies ++ talk_from flow (number + length xs) ys more
unfolding accepted talk_from
talk-append flow number [] ys [] more e = let same : number ≡ number + 0 = omega arith in ap (λ n. talk_from flow n ys more) same
talk-append flow number [] ys (reply ∷ replies) more e = absurd (omega (arith, e))
talk-append flow number (x ∷ xs) ys replies more e =
    by-said (λ texts few. talk-append flow (number + 1) xs ys texts more few ∙ ap (λ n. talk_from flow (number + 1) xs texts ++ talk_from flow n ys more) place) (said_by flow x) replies e
  where
    place : (number + 1) + length xs ≡ number + length (x ∷ xs)
    place = omega arith

    by-said : ((texts : List (List ℕ)) → length texts ≡ length (accepted flow xs)
        → talk_from flow (number + 1) (xs ++ ys) (texts ++ more) ≡ talk_from flow (number + 1) xs texts ++ talk_from flow (number + length (x ∷ xs)) ys more)
        → (said : ScriptLine) (replies : List (List ℕ)) → length replies ≡ length (command_in_line said ++ accepted flow xs)
        → said_to number said (replies ++ more) (talk_from flow (number + 1) (xs ++ ys))
        ≡ said_to number said replies (talk_from flow (number + 1) xs) ++ talk_from flow (number + length (x ∷ xs)) ys more
    by-said others script_line.Skipped replies e = others replies e
    by-said others (script_line.Bad why) replies e =
        ap (λ text. refused_text number why ++ text) (others replies e)
        ∙ sym (append_assoc (refused_text number why) (talk_from flow (number + 1) xs replies) (talk_from flow (number + length (x ∷ xs)) ys more))
    by-said others (script_line.Command command) [] e = absurd (omega (arith, e))
    by-said others (script_line.Command command) (reply ∷ replies) e =
        let one : length replies ≡ length (accepted flow xs) = omega (arith, e) in
        ap (λ text. reply ++ text) (others replies one)
        ∙ sym (append_assoc reply (talk_from flow (number + 1) xs replies) (talk_from flow (number + length (x ∷ xs)) ys more))

pub replies_to-append : (query : Query) (state : State) (xs ys : List Item) → replies_to query state (xs ++ ys) ≡ replies_to query state xs ++ replies_to query (after_items query state xs) ys
unfolding replies_to after_items
replies_to-append query state [] ys = refl
replies_to-append query state (x ∷ xs) ys = ap (λ replies. reply_of query state x ∷ replies) (replies_to-append query (after_item query state x) xs ys)

pub length-replies_to : (query : Query) (state : State) (items : List Item) → length (replies_to query state items) ≡ length items
unfolding replies_to
length-replies_to query state [] = refl
length-replies_to query state (one ∷ more) = ap suc (length-replies_to query (after_item query state one) more)

pub after_items-append : (query : Query) (state : State) (xs ys : List Item) → after_items query state (xs ++ ys) ≡ after_items query (after_items query state xs) ys
unfolding after_items
after_items-append query state [] ys = refl
after_items-append query state (x ∷ xs) ys = after_items-append query (after_item query state x) xs ys
