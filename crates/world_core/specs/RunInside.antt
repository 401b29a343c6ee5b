-- How the fields of a run are seen.
use Rattle.world_core.specs.declared.run.Run.{Run}
use Rattle.world_core.specs.Run.{RunView}

abbrev pub run_view : Run → RunView
run_view r = record { bus = r.bus; adapter = r.adapter; threads = r.threads.items; turns = r.log.turns; marks = r.log.marks; notes = r.log.notes; capacity = r.log.capacity }
