-- The locked pages: which call an ask represents, which reply an answer represents, and the runs that go in and come
-- out.
use Rattle.std.specs.Prelude.{◌≡◌, ℕ, ◌≤◌, is_some}
use Rattle.free_pages.specs.Legal.{PagesState, PagesCall, PagesReply, Take, Give, Look, Gets, Lacks, Accepts, HandsBack, Shows}
use Rattle.free_pages.specs.Legal as pages
use Rattle.free_pages.specs.PagesView.{PagesView, IsRunOf, MayGive}
use Rattle.dsa_area.specs.declared.pages.PagesAsk.{PagesAsk}
use Rattle.dsa_area.specs.declared.pages.PagesAsk.TheVariants.{TakeRun, GiveRun, LookAt}
use Rattle.dsa_area.specs.declared.pages.PagesAnswer.{PagesAnswer}
use Rattle.dsa_area.specs.declared.pages.PagesAnswer.TheVariants.{Granted, Refused, Returned, Back, Seen}
use Rattle.dsa_area.specs.declared.pages.PagesName.{PagesName}

-- the name of these pages
abbrev pub name_of : PagesView → PagesName
name_of v = record { region = v.region; first = v.first; pages = v.state.pages }

-- the call of an ask
abbrev pub call_of : PagesAsk → PagesCall
call_of (TakeRun n control) = Take n control
call_of (GiveRun run) = Give run.at run.pages (is_some run.control)
call_of LookAt = Look

-- the reply of an answer
abbrev pub reply_of : PagesAnswer → PagesReply
reply_of (Granted run) = Gets run.at
reply_of (Refused lack) = Lacks lack.wanted lack.largest
reply_of Returned = Accepts
reply_of (Back run) = HandsBack
reply_of (Seen usage) = Shows usage.used usage.largest

-- at least one page is asked for; a run that comes back is one that may be given to these pages
abbrev pub AskFits : PagesName → PagesAsk → Type 0
AskFits n (TakeRun count control) = 1 ≤ count
AskFits n (GiveRun run) = MayGive n.region n.first n.pages run.at run.pages run.words run.control
AskFits n LookAt = Unit {0}

-- a run that is granted has its pages and records; one that is handed back is the one that was brought
abbrev pub AnswerFits : PagesName → PagesAsk → PagesAnswer → Type 0
AnswerFits n (TakeRun count control) (Granted run) = IsRunOf n.region n.first n.pages count control run.at run.pages run.words run.control
AnswerFits n (TakeRun count control) (Refused lack) = Unit {0}
AnswerFits n (GiveRun run) Returned = Unit {0}
AnswerFits n (GiveRun run) (Back other) = other ≡ run
AnswerFits n LookAt (Seen usage) = Unit {0}
AnswerFits n ask answer = ⊥

-- what a call of any caller may reply, and what it does to the state
abbrev pub PagesLegal : PagesName → ℕ → PagesState → PagesCall → PagesReply → PagesState → Type 0
PagesLegal n caller before call reply after = pages.IsLegal n.first before call reply after
