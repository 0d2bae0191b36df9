-- The status and the line of a reason to have no table.
use Rattle.std.proofs.Common.{◌≡◌, ◌≢◌, ◌⊎◌, Contains, arith, inl, inr, ℕ, List, refl, None, Some, Option, IfSome, ◌++◌, ◌∙◌, append_assoc, decimal, codes, ap, sym}
use Rattle.std.proofs.lemmas.Bool.{eqb-false}
use Rattle.std.specs.Global.{Global}
use Rattle.std.specs.Prelude.{String, eqb, false, string_bytes}
use Rattle.par_model.specs.declared.refusal.Refusal.{Refusal}
use Rattle.par_model.specs.Named.{NamedPlan}
use Rattle.par_model.specs.Outcome.{Outcome, Usage, TooManyBytes, NoHeader, TooManyRows, NoColumn, Refused, Table}
use Rattle.table_query.specs.Answers.{IsOutcome, outcome_over, status_of}
use Rattle.answer_text.specs.Lines.{line, statuses}
use Rattle.table_query.specs.Asked.{usage_in}
use Rattle.table_query.specs.Lines.{IsLine, NamesFirst, NamesRow, outcome_text, refusal_text, refused_of, row_text}
use Rattle.table_query.specs.Stops.{Explains, IsExplained, IsFirstStop, stop_status, stop_text}
use Rattle.table_query.specs.declared.wanted.Wanted.{Wanted}
use Rattle.answer_text.specs.declared.status.TheConstants.{NO_MEMORY, READ_FAULT, REFUSED, TABLE, WRITE_FAULT}
use Rattle.table_query.specs.declared.stop.Stop.{Stop}
use Rattle.table_query.specs.declared.stop.Stop.TheVariants as stop

-- two numbers that a test tells apart
other : {m n : ℕ} → m ≡ n → eqb m n ≡ false → ⊥
other {m} {n} e apart = eqb-false m n apart e

-- the row's number before what is said of the row
row-text : (row : ℕ) (text : List ℕ) → (codes "row " ++ (decimal row ++ codes ": ")) ++ text ≡ codes "row " ++ (decimal row ++ (codes ": " ++ text))
row-text row text = append_assoc (codes "row ") (decimal row ++ codes ": ") text ∙ ap (λ l. codes "row " ++ l) (append_assoc (decimal row) (codes ": ") text)

-- the line of a refused row is that of the first row that the outcome refuses
says-row : (wanted : Wanted) (plan : NamedPlan) (row : ℕ) (cause : String Global) (refusal : Refusal) → string_bytes cause ≡ refusal_text plan refusal → line (stop_text wanted (stop.Refused row cause)) ≡ line (row_text plan (row, refusal))
says-row wanted plan row cause refusal same = ap line (ap (λ l. (codes "row " ++ (decimal row ++ codes ": ")) ++ l) same ∙ row-text row (refusal_text plan refusal))

NamesRow-refused : (wanted : Wanted) (plan : Option NamedPlan) (row : ℕ) (cause : String Global) (o : Outcome) → Explains plan (stop.Refused row cause) o → NamesRow plan o (line (stop_text wanted (stop.Refused row cause)))
NamesRow-refused wanted None row cause o explains = explains
NamesRow-refused wanted (Some plan) row cause o explains = ((row, explains.refusal), explains.has, says-row wanted plan row cause explains.refusal explains.says)

NamesFirst-refused : (wanted : Wanted) (plan : Option NamedPlan) (row : ℕ) (cause : String Global) (o : Outcome) → IsFirstStop plan (stop.Refused row cause) o → NamesFirst plan o (line (stop_text wanted (stop.Refused row cause)))
NamesFirst-refused wanted None row cause o first = first
NamesFirst-refused wanted (Some plan) row cause o first = ((row, first.refusal), first.first, says-row wanted plan row cause first.refusal first.says)

NamesFirst-stop : (wanted : Wanted) (plan : Option NamedPlan) (why : Stop) (o : Outcome) → IsFirstStop plan why o → stop_status why ≡ REFUSED → NamesFirst plan o (line (stop_text wanted why))
NamesFirst-stop wanted plan stop.Usage o explains is = absurd (other is refl)
NamesFirst-stop wanted plan stop.ReadFault o explains is = absurd (other is refl)
NamesFirst-stop wanted plan stop.TooManyBytes o explains is = absurd (other is refl)
NamesFirst-stop wanted plan stop.NoHeader o explains is = absurd (other is refl)
NamesFirst-stop wanted plan stop.TooManyRows o explains is = absurd (other is refl)
NamesFirst-stop wanted plan (stop.NoColumn name) o explains is = absurd (other is refl)
NamesFirst-stop wanted plan (stop.Refused row cause) o explains is = NamesFirst-refused wanted plan row cause o explains
NamesFirst-stop wanted plan stop.WriteFault o explains is = absurd (other is refl)
NamesFirst-stop wanted plan stop.Memory o explains is = absurd (other is refl)

-- its line is that of its status and of an outcome that it explains
IsLine-stop : (wanted : Wanted) (plan : Option NamedPlan) (why : Stop) (o : Outcome) → Explains plan why o → IsLine (usage_in wanted) plan (stop_status why) o (line (stop_text wanted why))
IsLine-stop wanted plan stop.Usage o explains = record { refused = λ e. absurd (other e refl); misused = λ _. (ap status_of explains, ap (λ p. line (outcome_text (usage_in wanted) p)) (sym explains)); read_fault = λ e. absurd (other e refl); write_fault = λ e. absurd (other e refl); no_memory = λ e. absurd (other e refl); too_much = λ e. absurd (other e refl) }
IsLine-stop wanted plan stop.ReadFault o explains = record { refused = λ e. absurd (other e refl); misused = λ e. absurd (other e refl); read_fault = λ _. refl; write_fault = λ e. absurd (other e refl); no_memory = λ e. absurd (other e refl); too_much = λ e. absurd (other e refl) }
IsLine-stop wanted plan stop.TooManyBytes o explains = record { refused = λ e. absurd (other e refl); misused = λ e. absurd (other e refl); read_fault = λ e. absurd (other e refl); write_fault = λ e. absurd (other e refl); no_memory = λ e. absurd (other e refl); too_much = λ _. (ap status_of explains, ap (λ p. line (outcome_text (usage_in wanted) p)) (sym explains)) }
IsLine-stop wanted plan stop.NoHeader o explains = record { refused = λ e. absurd (other e refl); misused = λ _. (ap status_of explains, ap (λ p. line (outcome_text (usage_in wanted) p)) (sym explains)); read_fault = λ e. absurd (other e refl); write_fault = λ e. absurd (other e refl); no_memory = λ e. absurd (other e refl); too_much = λ e. absurd (other e refl) }
IsLine-stop wanted plan stop.TooManyRows o explains = record { refused = λ e. absurd (other e refl); misused = λ e. absurd (other e refl); read_fault = λ e. absurd (other e refl); write_fault = λ e. absurd (other e refl); no_memory = λ e. absurd (other e refl); too_much = λ _. (ap status_of explains, ap (λ p. line (outcome_text (usage_in wanted) p)) (sym explains)) }
IsLine-stop wanted plan (stop.NoColumn name) o explains = record { refused = λ e. absurd (other e refl); misused = λ _. (ap status_of explains, ap (λ p. line (outcome_text (usage_in wanted) p)) (sym explains)); read_fault = λ e. absurd (other e refl); write_fault = λ e. absurd (other e refl); no_memory = λ e. absurd (other e refl); too_much = λ e. absurd (other e refl) }
IsLine-stop wanted plan (stop.Refused row cause) o explains = record { refused = λ _. NamesRow-refused wanted plan row cause o explains; misused = λ e. absurd (other e refl); read_fault = λ e. absurd (other e refl); write_fault = λ e. absurd (other e refl); no_memory = λ e. absurd (other e refl); too_much = λ e. absurd (other e refl) }
IsLine-stop wanted plan stop.WriteFault o explains = record { refused = λ e. absurd (other e refl); misused = λ e. absurd (other e refl); read_fault = λ e. absurd (other e refl); write_fault = λ _. refl; no_memory = λ e. absurd (other e refl); too_much = λ e. absurd (other e refl) }
IsLine-stop wanted plan stop.Memory o explains = record { refused = λ e. absurd (other e refl); misused = λ e. absurd (other e refl); read_fault = λ e. absurd (other e refl); write_fault = λ e. absurd (other e refl); no_memory = λ _. refl; too_much = λ e. absurd (other e refl) }

-- the outcome that its line is of, which is the outcome where the source tells
pub line_outcome : (wanted : Wanted) (plan : Option NamedPlan) (left : Option (List ℕ)) (why : Stop) → IsExplained plan left why → (o : Outcome) × IsOutcome plan left o × IsLine (usage_in wanted) plan (stop_status why) o (line (stop_text wanted why))
line_outcome wanted plan left why explained = (explained.0, explained.1, IsLine-stop wanted plan why explained.0 explained.2)

-- the first of the rows that the outcome refuses, where the source tells
pub line_first : (wanted : Wanted) (plan : Option NamedPlan) (left : Option (List ℕ)) (why : Stop) → IfSome left (λ bytes. IsFirstStop plan why (outcome_over plan bytes)) → stop_status why ≡ REFUSED
    → IfSome left (λ bytes. NamesFirst plan (outcome_over plan bytes) (line (stop_text wanted why)))
line_first wanted plan None why first is = tt
line_first wanted plan (Some bytes) why first is = NamesFirst-stop wanted plan why (outcome_over plan bytes) first is

-- ---- statuses

pub is_status : (why : Stop) → Contains statuses (stop_status why)
is_status stop.Usage = (2, omega arith, refl)
is_status stop.ReadFault = (3, omega arith, refl)
is_status stop.TooManyBytes = (6, omega arith, refl)
is_status stop.NoHeader = (2, omega arith, refl)
is_status stop.TooManyRows = (6, omega arith, refl)
is_status (stop.NoColumn name) = (2, omega arith, refl)
is_status (stop.Refused row cause) = (1, omega arith, refl)
is_status stop.WriteFault = (4, omega arith, refl)
is_status stop.Memory = (5, omega arith, refl)

refused_status : (o : Outcome) (row : ℕ × Refusal) → Contains (refused_of o) row → status_of o ≡ REFUSED
refused_status Usage row has = absurd (omega (arith, has.1))
refused_status TooManyBytes row has = absurd (omega (arith, has.1))
refused_status NoHeader row has = absurd (omega (arith, has.1))
refused_status TooManyRows row has = absurd (omega (arith, has.1))
refused_status (NoColumn name) row has = absurd (omega (arith, has.1))
refused_status (Refused rows) row has = refl
refused_status Table row has = absurd (omega (arith, has.1))

refused_told : (plan : Option NamedPlan) (row : ℕ) (cause : String Global) (o : Outcome) → Explains plan (stop.Refused row cause) o → status_of o ≡ REFUSED
refused_told None row cause o explains = absurd explains
refused_told (Some plan) row cause o explains = refused_status o (row, explains.refusal) explains.has

-- the status of a reason that is no fault is want of memory, or that of the outcome which it explains
told : (plan : Option NamedPlan) (why : Stop) (o : Outcome) → Explains plan why o → (why ≢ stop.ReadFault) → (why ≢ stop.WriteFault) → (stop_status why ≡ NO_MEMORY) ⊎ (stop_status why ≡ status_of o)
told plan stop.Usage o explains reads writes = inr (sym (ap status_of explains))
told plan stop.ReadFault o explains reads writes = absurd (reads refl)
told plan stop.TooManyBytes o explains reads writes = inr (sym (ap status_of explains))
told plan stop.NoHeader o explains reads writes = inr (sym (ap status_of explains))
told plan stop.TooManyRows o explains reads writes = inr (sym (ap status_of explains))
told plan (stop.NoColumn name) o explains reads writes = inr (sym (ap status_of explains))
told plan (stop.Refused row cause) o explains reads writes = inr (sym (refused_told plan row cause o explains))
told plan stop.WriteFault o explains reads writes = absurd (writes refl)
told plan stop.Memory o explains reads writes = inl refl

pub complete_told : (plan : Option NamedPlan) (left : Option (List ℕ)) (why : Stop) (n : ℕ) → IsExplained plan left why → n ≡ stop_status why → (why ≢ stop.ReadFault) → (why ≢ stop.WriteFault)
    → IfSome left (λ bytes. (n ≡ NO_MEMORY) ⊎ (n ≡ status_of (outcome_over plan bytes)))
complete_told plan None why n explained is reads writes = tt
complete_told plan (Some bytes) why n explained is reads writes = elim (told plan why explained.0 explained.2 reads writes) [
  | inl e ↦ inl (is ∙ e)
  | inr e ↦ inr (is ∙ e ∙ ap status_of explained.1)
]

pub outcome_told : (plan : Option NamedPlan) (left : Option (List ℕ)) (why : Stop) (n : ℕ) → IsExplained plan left why → n ≡ stop_status why
    → IfSome left (λ bytes. (n ≢ READ_FAULT) → (n ≢ WRITE_FAULT) → (n ≢ NO_MEMORY) → n ≡ status_of (outcome_over plan bytes))
outcome_told plan None why n explained is = tt
outcome_told plan (Some bytes) why n explained is = λ read write memory.
    elim (told plan why explained.0 explained.2 (λ e. read (is ∙ ap stop_status e)) (λ e. write (is ∙ ap stop_status e))) [
      | inl e ↦ absurd (memory (is ∙ e))
      | inr e ↦ is ∙ e ∙ ap status_of explained.1
    ]

-- which reason has which status

pub is_read_fault : (why : Stop) → stop_status why ≡ READ_FAULT → why ≡ stop.ReadFault
is_read_fault stop.Usage is = absurd (other is refl)
is_read_fault stop.ReadFault is = refl
is_read_fault stop.TooManyBytes is = absurd (other is refl)
is_read_fault stop.NoHeader is = absurd (other is refl)
is_read_fault stop.TooManyRows is = absurd (other is refl)
is_read_fault (stop.NoColumn name) is = absurd (other is refl)
is_read_fault (stop.Refused row cause) is = absurd (other is refl)
is_read_fault stop.WriteFault is = absurd (other is refl)
is_read_fault stop.Memory is = absurd (other is refl)

pub is_write_fault : (why : Stop) → stop_status why ≡ WRITE_FAULT → why ≡ stop.WriteFault
is_write_fault stop.Usage is = absurd (other is refl)
is_write_fault stop.ReadFault is = absurd (other is refl)
is_write_fault stop.TooManyBytes is = absurd (other is refl)
is_write_fault stop.NoHeader is = absurd (other is refl)
is_write_fault stop.TooManyRows is = absurd (other is refl)
is_write_fault (stop.NoColumn name) is = absurd (other is refl)
is_write_fault (stop.Refused row cause) is = absurd (other is refl)
is_write_fault stop.WriteFault is = refl
is_write_fault stop.Memory is = absurd (other is refl)

pub never_table : (why : Stop) → stop_status why ≢ TABLE
never_table stop.Usage is = absurd (other is refl)
never_table stop.ReadFault is = absurd (other is refl)
never_table stop.TooManyBytes is = absurd (other is refl)
never_table stop.NoHeader is = absurd (other is refl)
never_table stop.TooManyRows is = absurd (other is refl)
never_table (stop.NoColumn name) is = absurd (other is refl)
never_table (stop.Refused row cause) is = absurd (other is refl)
never_table stop.WriteFault is = absurd (other is refl)
never_table stop.Memory is = absurd (other is refl)
