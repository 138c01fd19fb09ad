-- What a shard shows of the model: the entries at its places are the model's residents, placeholders and ghosts, with the
-- numbers of the ledger forgotten.
use Rattle.std.specs.Prelude.{◌≡◌, ℕ, ◌+◌, Bool, true, false, List, [], Some, None, Option}
use Rattle.interface.specs.Meaning.{Keying}
use Rattle.model.specs.Lists.{mapped}
use Rattle.model.specs.Entries as model
use Rattle.ring_slab.specs.Places.{count}
use Rattle.shard.specs.declared.entry.Entry.{Entry}
use Rattle.shard.specs.declared.entry.Entry.TheVariants as E
use Rattle.shard.specs.declared.entry.ResidentState.{ResidentState}
use Rattle.shard.specs.declared.entry.ResidentState.TheVariants as S
use Rattle.shard.specs.declared.layout.Layout.{Layout}
use Rattle.shard.specs.Layout.{Places, entry_at, hash_at, Stands}

abbrev pub part : Bool → ResidentState
part true = S.Hot
part false = S.Cold

module _ {K V : Type 0} where
  -- a resident of the model as an entry
  abbrev pub plain : model.Resident K V → Entry K V
  plain r = E.Resident (record { key = r.key; weight = r.weight; value = r.val; state = part r.hot; reads = r.reads })

  -- a placeholder of the model as an entry
  abbrev pub waiting : model.Placeholder K → Entry K V
  waiting p = E.Placeholder (record { key = p.key; state = part p.hot; ticket = p.ticket })

  -- the entries at places, one after the other
  abbrev pub seen : Layout K V → List ℕ → List (Option (Entry K V))
  seen x ks = mapped (entry_at x) ks

  -- the residents rs lie at the places ks, in their order
  abbrev pub Shown : Layout K V → List ℕ → List (model.Resident K V) → Type 0
  Shown x ks rs = seen x ks ≡ mapped (λ r. Some (plain r)) rs

  -- a resident or placeholder is kept under its key's hash
  abbrev pub Hashed : Keying K → Option (Entry K V) → ℕ → Type 0
  Hashed e None h = Unit {0}
  Hashed e (Some (E.Resident r)) h = h ≡ e.code r.key
  Hashed e (Some (E.Placeholder p)) h = h ≡ e.code p.key
  Hashed e (Some E.Ghost) h = Unit {0}

  abbrev pub Keyed : Keying K → Layout K V → Type 0
  Keyed e x = (k : ℕ) → Hashed e (entry_at x k) (hash_at x k)

  -- With nothing in hand, the rings at the places p are those of t, the loose places are its residents off the rings and
  -- the placeholders ps.
  pub record Shows (e : Keying K) (x : Layout K V) (p : Places) (t : model.Rings K V) (ps : List (model.Placeholder K)) : Type 0 where
    pub stands : Stands x p
    pub settled : p.hand ≡ []
    pub keyed : Keyed e x
    pub hot : Shown x p.hot t.hot
    pub cold : Shown x p.cold t.cold
    pub ghosts : mapped (hash_at x) p.ghosts ≡ t.ghosts
    pub offs : List ℕ
    pub waits : List ℕ
    pub off : Shown x offs t.off
    pub placeholders : seen x waits ≡ mapped (λ q. Some (waiting q)) ps
    pub loose : (k : ℕ) → count k p.loose ≡ count k offs + count k waits
