-- How the logic stores the pages and the pools of an area.
use base.Stored.{Coded}
use Rattle.c_area.specs.contracts.arena.Arena.{the_row}

abbrev pub arena_code : Coded the_row.Denot
arena_code = the_row.coded
