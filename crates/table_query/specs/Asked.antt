-- What words ask for of one table: its groups, or its rows in order.
use Rattle.std.specs.Prelude.{ℕ, List, Option, codes, option_map}
use Rattle.par_model.specs.Named.{NamedPlan}
use Rattle.plan_spec.specs.Merging.{merge_of}
use Rattle.plan_spec.specs.Query.{Query, query_of}
use Rattle.table_query.specs.declared.wanted.Wanted.{Wanted}
use Rattle.table_query.specs.declared.wanted.Wanted.TheVariants.{Groups, Order}

-- the query that words ask for, if they do
abbrev pub asked : Wanted → List (List ℕ) → Option Query
asked Groups words = query_of words
asked Order words = merge_of words

-- the plan of a query
abbrev pub plan_in : Option Query → Option NamedPlan
plan_in query = option_map (λ query. query.plan) query

-- how many workers a query asks for
abbrev pub workers_in : Option Query → Option ℕ
workers_in query = option_map (λ query. query.workers) query

-- how a plan is asked for
abbrev pub usage_text : List ℕ
usage_text = codes "usage: pargather [--group COLUMNS] --agg ITEMS [--where FILTER] [--workers N] [--plan gather|hash] [--area-pages N]"

-- how rows in order are asked for
abbrev pub merge_usage_text : List ℕ
merge_usage_text = codes "usage: pargather merge COLUMNS N"

-- how the program is called for what is wanted
abbrev pub usage_in : Wanted → List ℕ
usage_in Groups = usage_text
usage_in Order = merge_usage_text
