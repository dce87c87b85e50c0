-- Laws of the tests: each is true exactly where its rule holds.
use Rattle.std.specs.Prelude.{◌≡◌, ◌↔◌, List, true}
use Rattle.amber_log.specs.declared.entry.Entry.{Entry}
use Rattle.amber_log.specs.declared.log.Item.{Item}
use Rattle.amber_meaning.specs.Laws.{SendersFirst}
use Rattle.amber_meaning.specs.Legal.{Query, Reaches}
use Rattle.amber_meaning.specs.Position.{Position}
use Rattle.amber_meaning.specs.Rules.{Assignment, May}
use Rattle.amber_meaning.specs.State.{State}
use Rattle.amber_judge.specs.LegalTests.{may_reach}
use Rattle.amber_judge.specs.RuleTests.{may_move}

-- the test of an entry's rule is true exactly where the rule holds
abbrev pub RulesAreTested : Type 0
RulesAreTested = (it : Assignment) (p : Position) (one : Entry) → (may_move it p one ≡ true) ↔ May it p one

-- the test of items is true exactly where they lead to a state
abbrev pub LogsAreTested : Type 0
LogsAreTested = (query : Query) (state : State) (items : List Item) → SendersFirst query.flow
    → (may_reach query state items ≡ true) ↔ ((after : State) × Reaches query state items after)
