-- What a folder in memory shows.
use Rattle.std.specs.Prelude.{◌≡◌, ℕ, Result}
use Rattle.amber_io.specs.Counts.{next_number}
use Rattle.amber_io.specs.Folder.{Named, files_of}
use Rattle.amber_io.specs.Memory.{IsPlanned, is_listed}
use Rattle.amber_io.specs.declared.error.IoErr.{IoErr}
use Rattle.amber_io.specs.declared.fails.Fails.{Fails}
use Rattle.amber_io.specs.declared.mem_folder.MemFolder.{MemFolder}

-- the files
abbrev pub held_files : MemFolder → Named
held_files folder = files_of folder.files

-- which of its calls fail
abbrev pub folder_plan : MemFolder → Fails
folder_plan folder = folder.fails

-- how many loads it has had, up to `u64::MAX`: the number of the last one
abbrev pub loads_made : MemFolder → ℕ
loads_made folder = folder.loads_made

-- how many of them failed while the file was there
abbrev pub failed_loads : MemFolder → ℕ
failed_loads folder = folder.load_faults

-- how many of its writes failed
abbrev pub failed_writes : MemFolder → ℕ
failed_writes folder = folder.write_faults

-- how many creates and appends it has had, up to `u64::MAX`: the number of the last one
abbrev pub writes_made : MemFolder → ℕ
writes_made folder = folder.writes_made

-- a create or an append: it has the next number, it fails as the plan says, and the plan and the loads stay
pub record IsWrite {A : Type 0} (result : Result A IoErr) (before after : MemFolder) : Type 0 where
  pub plan : folder_plan after ≡ folder_plan before
  pub loads : loads_made after ≡ loads_made before
  pub number : writes_made after ≡ next_number (writes_made before)
  pub planned : IsPlanned result ⊥
      (record { listed = is_listed (folder_plan before).writes (writes_made after); before = failed_writes before; now = failed_writes after })
