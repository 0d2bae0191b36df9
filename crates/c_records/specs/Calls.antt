-- What a call does to a handle, by its code. A blank handle has None.
use Rattle.std.specs.Prelude.{◌≡◌, ℕ, ◌⊎◌, List, Option, None, Some, IsSome, Result, Ok, Err}
use Rattle.c_records.specs.Looks.{Counts, HasNothing, Lists}
use Rattle.c_records.specs.Made.{IsFirst, IsFurther}
use Rattle.c_table.specs.Calls.{AnswersCount}
use Rattle.c_table.specs.Made.{IsRefused}
use Rattle.c_records.specs.Tries.{Tries}
use Rattle.c_table.specs.declared.code.Code.{Code}
use Rattle.c_table.specs.declared.code.Code.TheVariants.{Absent, Blank, Done, InUse, NoMemory}
use Rattle.c_records.specs.declared.shared.Share.{Share}
use Rattle.c_records.specs.declared.value.Record.{Record}
use Rattle.c_records.specs.declared.value.RecordCall.{RecordCall}

-- what an answer says by a code and a record that is written: the record is the one that was there
abbrev pub Answers : Result (Option Record) Code → Record → Record → Code → Type 0
Answers (Ok (Some found)) before after code = (code ≡ Done) × (after ≡ found)
Answers (Ok None) before after code = (code ≡ Absent) × (after ≡ before)
Answers (Err why) before after code = (code ≡ why) × (after ≡ before)

-- a try of a call of a key: a blank handle stays blank and has the code Blank
abbrev pub Changes : Option Share → Option Share → ℕ → RecordCall → Record → Record → Code → Type 0
Changes None new key call before after code = (new ≡ None) × (code ≡ Blank) × (after ≡ before)
Changes (Some s) new key call before after code = (t : Share) × (answer : Result (Option Record) Code) × (new ≡ Some t) × Tries s t key call answer × Answers answer before after code

-- a try to count the keys of a partition
abbrev pub CountsKeys : Option Share → Option Share → ℕ → ℕ → ℕ → Code → Type 0
CountsKeys None new partition before after code = (new ≡ None) × (code ≡ Blank) × (after ≡ before)
CountsKeys (Some s) new partition before after code = (t : Share) × (answer : Result ℕ Code) × (new ≡ Some t) × Counts s t partition answer × AnswersCount answer before after code

-- a try to list a partition
abbrev pub ListsKeys : Option Share → Option Share → ℕ → List ℕ → List Record → List ℕ → List Record → Code → ℕ → Type 0
ListsKeys None new partition keys records keys' records' code n = (new ≡ None) × (code ≡ Blank) × HasNothing keys records keys' records' n
ListsKeys (Some s) new partition keys records keys' records' code n = (t : Share) × (new ≡ Some t) × Lists s t partition keys records keys' records' code n

-- the caller goes, and the handle is blank
abbrev pub Closes : Option Share → Option Share → Code → Type 0
Closes None new code = (new ≡ None) × (code ≡ Blank)
Closes (Some s) new code = (new ≡ None) × (code ≡ Done)

-- a caller is put into a blank handle, if there is memory
abbrev pub Fills : Share → Option Share → Code → Type 0
Fills s new Done = new ≡ Some s
Fills s new NoMemory = new ≡ None
Fills s new code = ⊥

-- the handle of the first caller of a new table with a seed
abbrev pub Opens : ℕ → ℕ → ℕ → Option Share → Option Share → Code → Type 0
Opens callers words seed first first' Done = (first ≡ None) × ((s : Share) × (first' ≡ Some s) × IsFirst callers words seed s)
Opens callers words seed first first' InUse = IsSome first × (first' ≡ first)
Opens callers words seed first first' code = IsRefused callers words code × (first ≡ None) × (first' ≡ None)

-- a further caller: of a caller whose share was s and is t, by what came of it
abbrev pub SharesOne : ℕ → Share → Share → Option Share → Code → Type 0
SharesOne words s t next Done = (u : Share) × (next ≡ Some u) × IsFurther words s t (Ok u)
SharesOne words s t next NoMemory = (next ≡ None) × (IsFurther words s t (Err NoMemory) ⊎ ((u : Share) × IsFurther words s t (Ok u)))
SharesOne words s t next code = (next ≡ None) × IsFurther words s t (Err code)

-- the handle of a further caller, from that of this one
abbrev pub Shares : ℕ → Option Share → Option Share → Option Share → Option Share → Code → Type 0
Shares words from (Some u) from' next' code = (code ≡ InUse) × (from' ≡ from) × (next' ≡ Some u)
Shares words None None from' next' code = (code ≡ Blank) × (from' ≡ None) × (next' ≡ None)
Shares words (Some s) None from' next' code = (t : Share) × (from' ≡ Some t) × SharesOne words s t next' code
