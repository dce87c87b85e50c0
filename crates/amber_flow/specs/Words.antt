-- The words of the reasons, as error lines have them.
use Rattle.std.specs.Prelude.{ℕ, List, codes}
use Rattle.amber_flow.specs.declared.error.FlowWhy.{FlowWhy}
use Rattle.amber_flow.specs.declared.error.FlowWhy.TheVariants.{Json, Shape, Count, Name, Duplicate, Kind, Workers, Forward, Column, Mismatch, Wide, SinkPlace, Readers}

abbrev pub flow_reason_word : FlowWhy → List ℕ
flow_reason_word Json = codes "Json"
flow_reason_word Shape = codes "Shape"
flow_reason_word Count = codes "Count"
flow_reason_word Name = codes "Name"
flow_reason_word Duplicate = codes "Duplicate"
flow_reason_word Kind = codes "Kind"
flow_reason_word Workers = codes "Workers"
flow_reason_word Forward = codes "Forward"
flow_reason_word Column = codes "Column"
flow_reason_word Mismatch = codes "Mismatch"
flow_reason_word Wide = codes "Wide"
flow_reason_word SinkPlace = codes "SinkPlace"
flow_reason_word Readers = codes "Readers"
