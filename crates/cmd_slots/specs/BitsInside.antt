-- How the fields of the found bits are seen.
use Rattle.cmd_slots.specs.declared.bits.SlotBits.TheInside.{Inside}
use Rattle.cmd_slots.specs.BitsView.{BitsView}

abbrev pub bits_view : Inside → BitsView
bits_view a = record { bits = a.bits; sweeping = a.sweeping }
