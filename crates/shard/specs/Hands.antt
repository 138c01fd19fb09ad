-- What the parts of the two hands do: the reads that a lap takes, where a walk stops, what is taken out of a ring, and
-- what an eviction leaves.
use Rattle.std.specs.Prelude.{◌≡◌, ℕ, ◌-◌, ◌<◌, ◌≤◌, Bool, true, false, cond, not, ◌||◌, List, [], ◌∷◌, ◌++◌, length, Some, None, Option, nat_lt}
use Rattle.interface.specs.Meaning.{Keying, Life}
use Rattle.settings.specs.Standing.{limits}
use Rattle.model.specs.Lists.{sum_of, every, mapped, tail, Pick, nothing, here, when}
use Rattle.model.specs.Entries as model
use Rattle.model.specs.Hands.{Context, hot_stop, evict, cool}
use Rattle.model.specs.Requests.{state_after}
use Rattle.ring_slab.specs.Places.{count}
use Rattle.ring_slab.specs.Slots.{items, item_at}
use Rattle.ring_slab.specs.Holding.{SameLinks}
use Rattle.ring_slab.specs.Calls.{slots_of}
use Rattle.ring_slab.specs.declared.slots.Slot.{Slot}
use Rattle.ring_slab.specs.declared.linked_slab.LinkedSlab.{LinkedSlab}
use Rattle.shard.specs.declared.entry.Entry.{Entry}
use Rattle.shard.specs.declared.entry.Entry.TheVariants.{Resident, Placeholder, Ghost}
use Rattle.shard.specs.declared.entry.Resident as R
use Rattle.shard.specs.declared.lap.Met.{Met}
use Rattle.shard.specs.declared.lap.Met.TheVariants as M
use Rattle.shard.specs.declared.lap.Lap.{Lap}
use Rattle.shard.specs.declared.lap.Lap.TheVariants as L
use Rattle.shard.specs.declared.layout.Layout.{Layout}
use Rattle.shard.specs.Layout.{Places}
use Rattle.shard.specs.Shows.{plain, Shows}
use Rattle.shard.specs.Carries.{Carries}
use Rattle.shard.specs.Steps.{context_of, FollowsRings}

-- a place, if there is one, as a list
abbrev pub listed : Option ℕ → List ℕ
listed None = []
listed (Some at) = at ∷ []

module _ {K V : Type 0} where
  -- with a read less, down to 0
  abbrev pub worn : Option (Entry K V) → Option (Entry K V)
  worn None = None
  worn (Some (Resident r)) = Some (Resident (record { key = r.key; weight = r.weight; value = r.value; state = r.state; reads = r.reads - 1 }))
  worn (Some (Placeholder p)) = Some (Placeholder p)
  worn (Some Ghost) = Some Ghost

  -- without reads
  abbrev pub unread : Option (Entry K V) → Option (Entry K V)
  unread None = None
  unread (Some (Resident r)) = Some (Resident (record { key = r.key; weight = r.weight; value = r.value; state = r.state; reads = 0 }))
  unread (Some (Placeholder p)) = Some (Placeholder p)
  unread (Some Ghost) = Some Ghost

  abbrev pub reads_of : Option (Entry K V) → ℕ
  reads_of None = 0
  reads_of (Some (Resident r)) = r.reads
  reads_of (Some (Placeholder p)) = 0
  reads_of (Some Ghost) = 0

  -- the resident that an entry is, if it is one
  abbrev pub resident_of : Option (Entry K V) → Option (R.Resident K V)
  resident_of None = None
  resident_of (Some (Resident r)) = Some r
  resident_of (Some (Placeholder p)) = None
  resident_of (Some Ghost) = None

  -- a resident that is pinned
  abbrev pub held : (K → V → Bool) → Option (Entry K V) → Bool
  held pins None = false
  held pins (Some (Resident r)) = pins r.key r.value
  held pins (Some (Placeholder p)) = false
  held pins (Some Ghost) = false

  -- a resident that the hot hand goes past: it has reads, or is pinned
  abbrev pub passes : (K → V → Bool) → Option (Entry K V) → Bool
  passes pins None = false
  passes pins (Some (Resident r)) = nat_lt 0 r.reads || pins r.key r.value
  passes pins (Some (Placeholder p)) = false
  passes pins (Some Ghost) = false

  -- a resident at which the cold hand stops: it has reads, or is not pinned
  abbrev pub halts : (K → V → Bool) → Option (Entry K V) → Bool
  halts pins None = true
  halts pins (Some (Resident r)) = nat_lt 0 r.reads || not (pins r.key r.value)
  halts pins (Some (Placeholder p)) = true
  halts pins (Some Ghost) = true

  -- what the answer of `touch` says of the entry that it met
  abbrev pub Meets : (K → V → Bool) → Option (Entry K V) → Met → Type 0
  Meets pins o M.Pinned = (held pins o ≡ true) × (passes pins o ≡ true)
  Meets pins o M.Unpinned = (held pins o ≡ false) × (passes pins o ≡ true) × (0 < reads_of o)
  Meets pins o M.Stop = passes pins o ≡ false

  -- the entries along places
  abbrev pub along : List (Slot (Entry K V)) → List ℕ → List (Option (Entry K V))
  along s ks = mapped (item_at s) ks

  -- the residents rs lie at the places ks, in their order
  abbrev pub Lie : List (Slot (Entry K V)) → List ℕ → List (model.Resident K V) → Type 0
  Lie s ks rs = along s ks ≡ mapped (λ r. Some (plain r)) rs

  -- the entries at the places a have a read less, and all others are as they were
  abbrev pub Worn : List ℕ → List (Slot (Entry K V)) → List (Slot (Entry K V)) → Type 0
  Worn a s s' = (k : ℕ) → (1 ≤ count k a → item_at s' k ≡ worn (item_at s k)) × (count k a ≡ 0 → item_at s' k ≡ item_at s k)

  -- reads may have changed, and nothing else
  abbrev pub OnlyReads : List (Slot (Entry K V)) → List (Slot (Entry K V)) → Type 0
  OnlyReads s s' = (k : ℕ) → unread (item_at s' k) ≡ unread (item_at s k)

  -- all reads that there are
  abbrev pub all_reads : List (Slot (Entry K V)) → ℕ
  all_reads s = sum_of reads_of (items s)

  -- Nothing of a slab has changed but items, nor which slots have one.
  pub record SameShape (m m' : LinkedSlab (Entry K V)) : Type 0 where
    pub links : SameLinks (slots_of m) (slots_of m')
    pub free : m'.free ≡ m.free
    pub used : m'.used ≡ m.used

  -- A lap of the hot hand over the places xs: it stops at the first that is not passed, having taken reads from those
  -- before it; or it has passed all, and taken a read from one at least where one is not pinned.
  abbrev pub Lapped : (K → V → Bool) → List ℕ → List (Slot (Entry K V)) → List (Slot (Entry K V)) → Lap → Type 0
  Lapped pins xs s s' (L.Stop at) =
      (a : List ℕ) × (b : List ℕ) × (xs ≡ a ++ at ∷ b) × (every (passes pins) (along s a) ≡ true) × (passes pins (item_at s at) ≡ false) × Worn a s s'
  Lapped pins xs s s' L.Unpinned =
      (every (passes pins) (along s xs) ≡ true) × (every (held pins) (along s xs) ≡ false) × (all_reads s' < all_reads s) × Worn xs s s'
  Lapped pins xs s s' L.Pinned = (every (held pins) (along s xs) ≡ true) × Worn xs s s'

  -- Where the hot hand stops by the model, and where the walk over the places xs stopped: the ring, from there on, has
  -- what the model's walk leaves; where neither stops, each resident has lost a read.
  abbrev pub Stopped : List (Slot (Entry K V)) → List ℕ → List (model.Resident K V) → Pick (model.Resident K V) → Option ℕ → Type 0
  Stopped s xs rs nothing None = Lie s xs (mapped model.less_read rs)
  Stopped s xs rs nothing (Some at) = ⊥
  Stopped s xs rs (here b r a) None = ⊥
  Stopped s xs rs (here b r a) (Some at) = (c : List ℕ) × (d : List ℕ) × (xs ≡ c ++ at ∷ d) × Lie s (at ∷ d ++ c) (r ∷ a ++ b)

  -- The walk of the hot hand is the model's, of every list of residents at the places xs.
  abbrev pub WalksHot : (K → V → Bool) → List ℕ → List (Slot (Entry K V)) → List (Slot (Entry K V)) → Option ℕ → Type 0
  WalksHot pins xs s s' answer =
      (u : Context K V) (rs : List (model.Resident K V)) → u.pins ≡ pins → Lie s xs rs → Stopped s' xs rs (hot_stop u rs) answer

  -- the cold hand stops at the first of the places xs at which it does
  abbrev pub Halted : (K → V → Bool) → List ℕ → List (Slot (Entry K V)) → Option ℕ → Type 0
  Halted pins xs s None = every (λ o. not (halts pins o)) (along s xs) ≡ true
  Halted pins xs s (Some at) =
      (a : List ℕ) × (b : List ℕ) × (xs ≡ a ++ at ∷ b) × (every (λ o. not (halts pins o)) (along s a) ≡ true) × (halts pins (item_at s at) ≡ true)

  -- What was taken out of the hot ring is in hand, and the rings are those that the model leaves.
  abbrev pub Taken : Keying K → Layout K V → model.Rings K V → List (model.Placeholder K) → Pick (model.Resident K V) → Option ℕ → Type 0
  Taken e x t ps nothing None = (p : Places) × Shows e x p (model.put model.hot_ring (mapped model.less_read t.hot) t) ps
  Taken e x t ps nothing (Some at) = ⊥
  Taken e x t ps (here b r a) None = ⊥
  Taken e x t ps (here b r a) (Some at) = (p : Places) × Carries e x p at (plain r) (model.put model.hot_ring (a ++ b) t) ps

  abbrev pub TakesHot : (K → V → Bool) → Layout K V → Layout K V → Option ℕ → Type 0
  TakesHot pins x x' answer =
      (e : Keying K) (u : Context K V) (p : Places) (t : model.Rings K V) (ps : List (model.Placeholder K)) → u.pins ≡ pins → Shows e x p t ps → Taken e x' t ps (hot_stop u t.hot) answer

  -- A resident that is in hand joins the hot ring, with a read less.
  abbrev pub Promotes : ℕ → Layout K V → Layout K V → Type 0
  Promotes at x x' =
      (e : Keying K) (p : Places) (r : model.Resident K V) (t : model.Rings K V) (ps : List (model.Placeholder K)) → Carries e x p at (plain r) t ps → (p' : Places) × Shows e x' p' (model.put model.hot_ring (t.hot ++ model.promoted r ∷ []) t) ps

  -- The oldest ghost, the head, is gone if there were more than the bound.
  abbrev pub BoundsGhosts : Layout K V → Layout K V → Type 0
  BoundsGhosts x x' =
      (e : Keying K) (p : Places) (t : model.Rings K V) (ps : List (model.Placeholder K)) → Shows e x p t ps → (p' : Places) × Shows e x' p' (model.put_ghosts (cond (nat_lt (limits x.settings).bound (length t.ghosts)) (tail t.ghosts) t.ghosts) t) ps

  -- What the cold hand does with the resident at which it stopped, by the model: with reads it is promoted, and the hot
  -- hand makes room for it; otherwise it is evicted.
  abbrev pub leaves_cold : Context K V → model.Resident K V → model.Rings K V → model.Rings K V
  leaves_cold u r t = when (nat_lt 0 r.reads) (λ _. cool u (model.put model.hot_ring (t.hot ++ (model.promoted r ∷ [])) t)) (λ _. evict u r t)

  -- the hot and the cold ring are as long as they were
  pub record SameLengths (x x' : Layout K V) : Type 0 where
    pub hot : x'.hot.len ≡ x.hot.len
    pub cold : x'.cold.len ≡ x.cold.len

module _ {S K V : Type 0} (weigh : K → V → ℕ) (l : Life S K V) where
  -- A resident that is in hand leaves as f has it leave, and the request state goes from q to q'.
  abbrev pub LetsGo : (Context K V → model.Resident K V → model.Rings K V → model.Rings K V) → ℕ → Layout K V → Layout K V → S → S → Type 0
  LetsGo f at x x' q q' =
      (e : Keying K) (s₀ : S) (p : Places) (r : model.Resident K V) (t : model.Rings K V) (ps : List (model.Placeholder K)) → q ≡ state_after l s₀ t.events → Carries e x p at (plain r) t ps →
      (q' ≡ state_after l s₀ (f (context_of weigh l e x s₀) r t).events) × ((p' : Places) × Shows e x' p' (f (context_of weigh l e x s₀) r t) ps)

  -- What the cold hand does with the resident in hand at which it stopped. Where it is promoted, the request state stays, and
  -- all is done once the hot hand has made room for it.
  abbrev pub LeavesCold : ℕ → Layout K V → Layout K V → Bool → S → S → Type 0
  LeavesCold at x x' true q q' = (q' ≡ q) × ((x'' : Layout K V) (q'' : S) → FollowsRings weigh l cool x' x'' q q'' → LetsGo leaves_cold at x x'' q q'')
  LeavesCold at x x' false q q' = LetsGo leaves_cold at x x' q q'
