-- Room for rows and an end that are pushed without a wish for memory.
use Rattle.std.specs.Global.{Vec}
use Rattle.std.specs.Prelude.{◌≡◌, ℕ, ◌+◌, ◌-◌, ◌*◌, ◌<◌, ◌≤◌, List, [], All, vec_capacity}
use Rattle.amber_rows.specs.declared.row.Row.{Row}

-- the rows of a batch, how many rows and an end have room, the rows at hand and how many their list takes, how many empty lists are
-- spare, the batches that wait, and how many may
pub record Room : Type 0 where
  pub batch_size : ℕ
  pub room : ℕ
  pub held : ℕ
  pub capacity : ℕ
  pub spares : ℕ
  pub waiting : ℕ
  pub slots : ℕ

-- the list at hand and the spare ones take the rows, and the batches find their places
pub record HasRoom (r : Room) : Type 0 where
  pub some : 0 < r.batch_size
  pub few : r.held < r.batch_size
  pub own : r.capacity < r.batch_size → r.held + r.room ≤ r.capacity + 1
  pub more : r.held + r.room ≤ r.batch_size + r.batch_size * r.spares + 1
  pub free : 0 < r.room → r.held + r.room ≤ r.batch_size * (r.slots - r.waiting)

-- lists with no row that take a batch
abbrev pub AreSpare : ℕ → List (Vec Row) → Type 0
AreSpare batch_size spares = All (λ one. (one.items ≡ []) × (batch_size ≤ vec_capacity one)) spares
