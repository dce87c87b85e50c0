-- The order of rows is a total order.
use Rattle.std.specs.Prelude.{◌≡◌, refl}
use Rattle.std.specs.Cmp.{IsTotalOrder, int_cmp_total}
use Rattle.std.specs.Cmp.Lexicographic.{lists_total, nat_list_cmp_total}
use Rattle.std.specs.declared.cmp.Ordering.TheVariants.{Less, Equal}
use Rattle.amber_rows.specs.Order.{row_cmp, value_cmp}
use Rattle.amber_rows.specs.declared.value.Value.{Value}
use Rattle.amber_rows.specs.declared.value.Value.TheVariants.{Int, Text}
use Rattle.std.specs.Ordering.{ordering_reverse}

value_antisymm : (x y : Value) → value_cmp x y ≡ ordering_reverse (value_cmp y x)
value_antisymm (Int m) (Int n) = int_cmp_total.antisymm m n
value_antisymm (Int m) (Text t) = refl
value_antisymm (Text s) (Int n) = refl
value_antisymm (Text s) (Text t) = nat_list_cmp_total.antisymm s t

value_trans : (x y z : Value) → value_cmp x y ≡ Less → value_cmp y z ≡ Less → value_cmp x z ≡ Less
value_trans (Int m) (Int n) (Int o) p q = int_cmp_total.trans m n o p q
value_trans (Int m) (Int n) (Text u) p q = refl
value_trans (Int m) (Text t) (Int o) p q = cc
value_trans (Int m) (Text t) (Text u) p q = refl
value_trans (Text s) (Int n) (Int o) p q = cc
value_trans (Text s) (Int n) (Text u) p q = cc
value_trans (Text s) (Text t) (Int o) p q = cc
value_trans (Text s) (Text t) (Text u) p q = nat_list_cmp_total.trans s t u p q

value_congr : (x y z : Value) → value_cmp x y ≡ Equal → value_cmp x z ≡ value_cmp y z
value_congr (Int m) (Int n) (Int o) p = int_cmp_total.congr m n o p
value_congr (Int m) (Int n) (Text u) p = refl
value_congr (Int m) (Text t) z p = cc
value_congr (Text s) (Int n) z p = cc
value_congr (Text s) (Text t) (Int o) p = refl
value_congr (Text s) (Text t) (Text u) p = nat_list_cmp_total.congr s t u p

pub value-total : IsTotalOrder value_cmp
value-total = record { antisymm = value_antisymm; trans = value_trans; congr = value_congr }

pub row-total : IsTotalOrder row_cmp
row-total = lists_total value-total
