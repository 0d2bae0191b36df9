-- What a drawer does, by its calls. Its state is the value of the word of the part that it holds, if it holds one.
use Rattle.std.specs.Prelude.{◌≡◌, ℕ, Option, Some, None, IsSome}
use Rattle.word_map.specs.WordMap.{at as word_at}
use Rattle.region_words.specs.Parts.{Owned}
use Rattle.uses_book.specs.declared.asks.Ask.{Ask}
use Rattle.uses_book.specs.declared.asks.Ask.TheVariants.{PutIn, TakeOut}
use Rattle.uses_book.specs.declared.asks.Answer.{Answer}
use Rattle.uses_book.specs.declared.asks.Answer.TheVariants.{Stored, Full, Taken, Empty}
use Rattle.uses_book.specs.declared.asks.Call.{Call}
use Rattle.uses_book.specs.declared.asks.Call.TheVariants.{Put, Take}
use Rattle.uses_book.specs.declared.asks.Reply.{Reply}
use Rattle.uses_book.specs.declared.asks.Reply.TheVariants.{WasStored, WasFull, WasTaken, WasEmpty}
use Rattle.uses_book.specs.declared.asks.DrawerName.{DrawerName}
use Rattle.uses_book.specs.declared.drawer.Drawer.{Drawer}

-- the value of the word of the part that a drawer holds, if it holds one
abbrev pub held_word : Option Owned → ℕ → Option ℕ
held_word None w = None
held_word (Some p) w = Some w

-- the state of a drawer
abbrev pub state_of : Drawer → Option ℕ
state_of d = held_word d.held d.word

-- the call of an ask
abbrev pub call_of : Ask → Call
call_of (PutIn p) = Put
call_of TakeOut = Take

-- the reply of an answer
abbrev pub reply_of : Answer → Reply
reply_of (Stored w) = WasStored w
reply_of (Full p) = WasFull
reply_of (Taken p w t) = WasTaken w t
reply_of Empty = WasEmpty

-- a part that goes in is of the drawer's region and owns the drawer's word
abbrev pub AskFits : DrawerName → Ask → Type 0
AskFits n (PutIn p) = (p.region ≡ n.region) × IsSome (word_at p.words n.at)
AskFits n TakeOut = Unit {0}

-- what is said of the tokens: the word stored is the part's, a part that found the drawer full is the one that went in,
-- and a part that comes out is of the drawer's region and has the word that is said
abbrev pub AnswerFits : DrawerName → Ask → Answer → Type 0
AnswerFits n (PutIn p) (Stored w) = word_at p.words n.at ≡ Some w
AnswerFits n (PutIn p) (Full q) = q ≡ p
AnswerFits n (PutIn p) (Taken q w t) = ⊥
AnswerFits n (PutIn p) Empty = ⊥
AnswerFits n TakeOut (Stored w) = ⊥
AnswerFits n TakeOut (Full q) = ⊥
AnswerFits n TakeOut (Taken q w t) = (q.region ≡ n.region) × (word_at q.words n.at ≡ Some w)
AnswerFits n TakeOut Empty = Unit {0}

-- an empty drawer stores what is put in, a full one stays as it is; a full one gives what it holds, with its tag
abbrev pub DrawerLegal : ℕ → Option ℕ → Call → Reply → Option ℕ → Type 0
DrawerLegal tag s Put (WasStored w) t = (s ≡ None) × (t ≡ Some w)
DrawerLegal tag s Put WasFull t = IsSome s × (t ≡ s)
DrawerLegal tag s Put (WasTaken w g) t = ⊥
DrawerLegal tag s Put WasEmpty t = ⊥
DrawerLegal tag s Take (WasStored w) t = ⊥
DrawerLegal tag s Take WasFull t = ⊥
DrawerLegal tag s Take (WasTaken w g) t = (s ≡ Some w) × (g ≡ tag) × (t ≡ None)
DrawerLegal tag s Take WasEmpty t = (s ≡ None) × (t ≡ None)
