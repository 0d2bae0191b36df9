use Rattle.std.specs.Hash.{le_bytes}
use Rattle.dshash_core.proofs.key.sip_on.Goals as goal

pub returns : goal.returns
unfolding le_bytes
returns c = c.write_u64.ensures
