-- What a call makes of the name under a key, and its reply.
use Rattle.std.specs.Prelude.{Option, Some, None}
use Rattle.dshash_chunks.specs.declared.name.ChunkName.{ChunkName}
use Rattle.dshash_chunks.specs.declared.name.NameCall.{NameCall}
use Rattle.dshash_chunks.specs.declared.name.NameCall.TheVariants.{Put, Get, Take}

-- the name afterwards, if any
abbrev pub after : Option ChunkName → NameCall → Option ChunkName
after before (Put name) = Some name
after before Get = before
after before Take = None

-- the reply is the name before
abbrev pub stepped : Option ChunkName → NameCall → Option ChunkName × Option ChunkName
stepped before call = (after before call, before)
