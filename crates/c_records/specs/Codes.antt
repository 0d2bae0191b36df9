-- How the logic stores a caller's share.
use base.Stored.{Coded}
use Rattle.c_records.specs.contracts.shared.Share.{the_row}

abbrev pub share_code : Coded the_row.Denot
share_code = the_row.coded
