-- What a shard shows of the model while a call has one entry in hand.
use Rattle.std.specs.Prelude.{◌≡◌, ℕ, ◌+◌, List, [], ◌∷◌, Some}
use Rattle.interface.specs.Meaning.{Keying}
use Rattle.model.specs.Lists.{mapped}
use Rattle.model.specs.Entries as model
use Rattle.ring_slab.specs.Places.{count}
use Rattle.shard.specs.declared.entry.Entry.{Entry}
use Rattle.shard.specs.declared.layout.Layout.{Layout}
use Rattle.shard.specs.Layout.{Places, entry_at, hash_at, Stands}
use Rattle.shard.specs.Shows.{waiting, seen, Shown, Keyed}

module _ {K V : Type 0} where
  -- The entries in the rings and at the loose places are those of t and ps, whatever is in hand: what `Shows` says but for
  -- the places themselves.
  pub record Contents (e : Keying K) (x : Layout K V) (p : Places) (t : model.Rings K V) (ps : List (model.Placeholder K)) : Type 0 where
    pub keyed : Keyed e x
    pub hot : Shown x p.hot t.hot
    pub cold : Shown x p.cold t.cold
    pub ghosts : mapped (hash_at x) p.ghosts ≡ t.ghosts
    pub offs : List ℕ
    pub waits : List ℕ
    pub off : Shown x offs t.off
    pub placeholders : seen x waits ≡ mapped (λ q. Some (waiting q)) ps
    pub loose : (k : ℕ) → count k p.loose ≡ count k offs + count k waits

  -- The shard shows t and ps, and has the entry c in hand, at the place `at`.
  pub record Carries (e : Keying K) (x : Layout K V) (p : Places) (at : ℕ) (c : Entry K V) (t : model.Rings K V) (ps : List (model.Placeholder K)) : Type 0 where
    pub stands : Stands x p
    pub held : p.hand ≡ at ∷ []
    pub entry : entry_at x at ≡ Some c
    pub contents : Contents e x p t ps
