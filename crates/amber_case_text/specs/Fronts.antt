-- Cases in which no call fails.
use Rattle.std.specs.Prelude.{◌≡◌, []}
use Rattle.amber_case_text.specs.declared.case.Case.{Case}

-- none of its calls is to fail, and none keeps a count of bytes
abbrev pub HasNoFailures : Case → Type 0
HasNoFailures case = (case.loads.items ≡ []) × (case.writes.items ≡ []) × (case.puts.items ≡ []) × (case.keep.items ≡ [])
