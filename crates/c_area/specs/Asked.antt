-- The locked area: which call an ask represents, which reply an answer represents, and the chunks that go in and come
-- out.
use Rattle.std.specs.Prelude.{◌≡◌, ◌≤◌, ◌^◌}
use Rattle.size_classes.specs.Classes.{IsClass}
use Rattle.region_words.specs.declared.chunk.Chunk.{Chunk}
use Rattle.dsa_area.specs.Sizes.{chunk_size}
use Rattle.c_area.specs.States.{AreaCall, AreaReply, Request, Return, TrimClass, LookAt, Granted, Refused, TakenBack, HandedBack, Trimmed, Untrimmed, Seen}
use Rattle.c_area.specs.declared.histories.AreaName.{AreaName}
use Rattle.c_area.specs.declared.locked.AreaAsk.{AreaAsk}
use Rattle.c_area.specs.declared.locked.AreaAsk.TheVariants.{Alloc, Free, Trim, Usage}
use Rattle.c_area.specs.declared.locked.AreaAnswer.{AreaAnswer}
use Rattle.c_area.specs.declared.locked.AreaAnswer.TheVariants.{Given, Lacking, Taken, Back, Gone, Left, Used}

-- the call of an ask
abbrev pub call_of : AreaAsk → AreaCall
call_of (Alloc bytes) = Request bytes
call_of (Free chunk) = Return chunk.at chunk.bytes
call_of (Trim class) = TrimClass class
call_of Usage = LookAt

-- the reply of an answer
abbrev pub reply_of : AreaAnswer → AreaReply
reply_of (Given chunk) = Granted chunk.at
reply_of (Lacking lack) = Refused lack.wanted lack.largest
reply_of Taken = TakenBack
reply_of (Back chunk) = HandedBack
reply_of Gone = Trimmed
reply_of Left = Untrimmed
reply_of (Used usage) = Seen usage.used usage.largest

-- a request is for 1 to 2 ^ 30 bytes; a chunk that comes back is of the area's region
abbrev pub AskFits : AreaName → AreaAsk → Type 0
AskFits n (Alloc bytes) = (1 ≤ bytes) × (bytes ≤ 2 ^ 30)
AskFits n (Free chunk) = chunk.part.region ≡ n.region
AskFits n (Trim class) = IsClass class
AskFits n Usage = Unit {0}

-- a chunk that is granted has the bytes of its size and is of the area's region; one that is handed back is the one
-- that was brought
abbrev pub AnswerFits : AreaName → AreaAsk → AreaAnswer → Type 0
AnswerFits n (Alloc bytes) (Given chunk) = (chunk.bytes ≡ chunk_size bytes) × (chunk.part.region ≡ n.region)
AnswerFits n (Alloc bytes) (Lacking lack) = Unit {0}
AnswerFits n (Free chunk) Taken = Unit {0}
AnswerFits n (Free chunk) (Back other) = other ≡ chunk
AnswerFits n (Trim class) Gone = Unit {0}
AnswerFits n (Trim class) Left = Unit {0}
AnswerFits n Usage (Used usage) = Unit {0}
AnswerFits n ask answer = ⊥
