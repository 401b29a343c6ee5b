-- The entry in which a host asks a command.
use Rattle.std.specs.Prelude.{ℕ, ◌+◌, nat_lt, if◌then◌else◌, List, [], ◌∷◌, replicate}
use Rattle.cmd_format.specs.declared.entry.CmdEntry.{CmdEntry}
use Rattle.cmd_slots.specs.Place.{block_address}

-- what entry and blocks of a command have in common
abbrev pub asked_token : ℕ
asked_token = 0x2a

-- the pointer to block j, where so many bytes need it
abbrev pub pointer_for : ℕ → ℕ → ℕ → ℕ
pointer_for slot j bytes = if nat_lt 16 bytes then block_address slot j else 0

-- the addresses of two blocks from block j on
abbrev pub addresses_from : ℕ → ℕ → List ℕ
addresses_from slot j = block_address slot j ∷ block_address slot (j + 1) ∷ []

abbrev pub asked_entry : ℕ → List ℕ → ℕ → ℕ → CmdEntry
asked_entry slot head in_len out_len = record {
  in_len = in_len;
  in_ptr = pointer_for slot 0 in_len;
  input = head;
  output = replicate 16 0;
  out_ptr = pointer_for slot 2 out_len;
  out_len = out_len;
  token = asked_token;
  status_own = 1;
}
