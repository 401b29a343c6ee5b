-- How the fields of the tables are seen, and what holds of them.
use Rattle.std.specs.Prelude.{ℕ, ◌≡◌, ◌+◌, ◌≤◌, vec_capacity, vec_len}
use Rattle.device_commands.specs.declared.objects.ObjectTables.TheInside as objects
use Rattle.device_commands.specs.declared.tables.DeviceTables.TheInside as tables
use Rattle.device_commands.specs.Objects.{Objects}
use Rattle.device_commands.specs.Tables.{Tables}
use Rattle.device_commands.specs.Users.{EqsCounted, PairsCounted}

abbrev pub objects_view : objects.Inside → Objects
objects_view a = record {
  declared = record { pds = a.declared.pds; eqs = a.declared.eqs.items; cqs = a.declared.cqs.items; qps = a.declared.qps.items; owners = a.declared.owners.items };
  pds = a.pds.items;
  uars = a.uars.items;
  eqs = a.eqs.items;
  cqs = a.cqs.items;
  qps = a.qps.items;
}

-- of a kind at most what is declared was made, and there is room for all of that, which is little
pub record HasRoom (made declared capacity : ℕ) : Type 0 where
  pub few : made ≤ declared
  pub room : declared ≤ capacity
  pub bounded : declared ≤ 255

pub record IsObjectTables (a : objects.Inside) : Type 0 where
  pub pds : HasRoom (vec_len a.pds) a.declared.pds (vec_capacity a.pds)
  pub uars : HasRoom (vec_len a.uars) (vec_len a.declared.eqs + vec_len a.declared.cqs + vec_len a.declared.qps) (vec_capacity a.uars)
  pub eqs : HasRoom (vec_len a.eqs) (vec_len a.declared.eqs) (vec_capacity a.eqs)
  pub cqs : HasRoom (vec_len a.cqs) (vec_len a.declared.cqs) (vec_capacity a.cqs)
  pub qps : HasRoom (vec_len a.qps) (vec_len a.declared.qps) (vec_capacity a.qps)
  pub pd_count : vec_len a.pd_users ≡ a.declared.pds
  pub eq_count : vec_len a.eq_users ≡ vec_len a.declared.eqs
  pub cq_count : vec_len a.cq_users ≡ vec_len a.declared.cqs
  pub eqs_counted : EqsCounted a.eq_users.items a.cqs.items
  pub pairs_counted : PairsCounted a.pd_users.items a.cq_users.items a.qps.items

abbrev pub tables_view : tables.Inside → Tables
tables_view a = record { adapter = a.hca; objects = a.objects }
