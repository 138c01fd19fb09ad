-- The answers of the program's calls as the model's.
use Rattle.std.specs.Prelude.{cond, Some, None, Ok, Err, Option, Result}
use Rattle.model.specs.Calls as calls
use Rattle.shard.specs.declared.strategy.InsertStrategy.{InsertStrategy}
use Rattle.shard.specs.declared.strategy.InsertStrategy.TheVariants.{Insert, Replace}
use Rattle.shard.specs.declared.strategy.Returned.{Returned}

abbrev pub strategy_of : InsertStrategy → calls.Strategy
strategy_of Insert = calls.plain
strategy_of (Replace soft) = cond soft calls.soft_replace calls.replace

module _ {K V : Type 0} where
  -- key and record, from get and remove
  abbrev pub pair_found : Option (K × V) → calls.Answer K V
  pair_found None = calls.none
  pair_found (Some kv) = calls.found kv.0 kv.1

  -- a record, from peek
  abbrev pub copy_found : Option V → calls.Answer K V
  copy_found None = calls.none
  copy_found (Some v) = calls.copied v

  -- an insert or a replace: taken, or the record handed back
  abbrev pub taken : {U : Type 0} → Result U (Returned V) → calls.Answer K V
  taken (Ok u) = calls.done
  taken (Err back) = calls.returned back.why back.value
