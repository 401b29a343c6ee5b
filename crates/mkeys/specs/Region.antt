-- What a region of memory allows.
use Rattle.std.specs.Prelude.{ℕ, ◌≡◌, ◌+◌, ◌≤◌, Bool, ◌&&◌, nat_le, IsTrue}
use Rattle.verbs_types.specs.declared.command.Rights.{Rights}
use Rattle.mkeys.specs.declared.region.Right.{Right}
use Rattle.mkeys.specs.declared.region.Right.TheVariants.{LocalRead, LocalWrite, RemoteRead, RemoteWrite, Atomic}
use Rattle.mkeys.specs.declared.region.KeyRegion.{KeyRegion}

abbrev pub has_right : Rights → Right → Bool
has_right rights LocalRead = rights.local_read
has_right rights LocalWrite = rights.local_write
has_right rights RemoteRead = rights.remote_read
has_right rights RemoteWrite = rights.remote_write
has_right rights Atomic = rights.atomic

-- whether `len` bytes from this address on lie in the region
abbrev pub is_within : KeyRegion → ℕ → ℕ → Bool
is_within region addr len = nat_le region.start addr && nat_le (addr + len) (region.start + region.len)

-- The region may be used so: by this protection domain, with this right, for `len` bytes from this address on.
pub record Allows (region : KeyRegion) (pd addr len : ℕ) (right : Right) : Type 0 where
  pub domain : region.pd ≡ pd
  pub right_held : IsTrue (has_right region.rights right)
  pub from_start : region.start ≤ addr
  pub to_end : addr + len ≤ region.start + region.len
