-- Which request a line is.
use Rattle.std.specs.Prelude.{ℕ, List, Option, None, Some, option_map}
use Rattle.shell_lines.specs.BarrierRequests.{BarrierRequest}
use Rattle.shell_lines.specs.BarrierRequests as barriers
use Rattle.shell_lines.specs.ChunkRequests.{ChunkRequest}
use Rattle.shell_lines.specs.ChunkRequests as chunks
use Rattle.shell_lines.specs.RingRequests.{RingRequest}
use Rattle.shell_lines.specs.RingRequests as rings
use Rattle.shell_lines.specs.TableRequests.{TableRequest}
use Rattle.shell_lines.specs.TableRequests as table
use Rattle.shell_lines.specs.TocRequests.{TocRequest}
use Rattle.shell_lines.specs.TocRequests as toc
use Rattle.shell_lines.specs.Words.{words_of}
use Rattle.shell_lines.specs.declared.command.Command.{Command}
use Rattle.shell_lines.specs.declared.command.Command.TheVariants as code

-- what a line may ask
pub data Request : Type 0 where
  OfChunks : ChunkRequest → Request
  OfTable : TableRequest → Request
  OfRings : RingRequest → Request
  OfToc : TocRequest → Request
  OfBarriers : BarrierRequest → Request

-- the request that a command of the code is
abbrev pub request_of : Command → Request
request_of (code.Chunk command) = OfChunks (chunks.request_of command)
request_of (code.Table command) = OfTable (table.request_of command)
request_of (code.Ring command) = OfRings (rings.request_of command)
request_of (code.Toc command) = OfToc (toc.request_of command)
request_of (code.Barrier command) = OfBarriers (barriers.request_of command)

-- its numbers are in their ranges
abbrev pub IsAllowed : Request → Type 0
IsAllowed (OfChunks request) = chunks.IsAllowed request
IsAllowed (OfTable request) = table.IsAllowed request
IsAllowed (OfRings request) = rings.IsAllowed request
IsAllowed (OfToc request) = toc.IsAllowed request
IsAllowed (OfBarriers request) = barriers.IsAllowed request

-- the first of two that is there
abbrev pub first_of : {A : Type 0} → Option A → Option A → Option A
first_of None y = y
first_of (Some x) y = Some x

-- the request that words are
abbrev pub request_by : List (List ℕ) → Option Request
request_by words =
    first_of (option_map OfChunks (chunks.request_in words))
    (first_of (option_map OfTable (table.request_in words))
    (first_of (option_map OfRings (rings.request_in words))
    (first_of (option_map OfToc (toc.request_in words))
    (option_map OfBarriers (barriers.request_in words)))))

-- the request that a line is: one with a text, or the one that its words are
abbrev pub request_in : List ℕ → Option Request
request_in line = first_of (option_map OfRings (rings.send_in line)) (request_by (words_of line))
