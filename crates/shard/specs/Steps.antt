-- The hands and shrinking, against the model: for every model state that the shard shows before, it shows the model's after,
-- with the same answer, and the request state is folded over the model's events.
use Rattle.std.specs.Prelude.{◌≡◌, ℕ, ◌+◌, ◌*◌, ◌<◌, ◌≤◌, Bool, true, false, List, length}
use Rattle.interface.specs.Meaning.{Keying, Life}
use Rattle.settings.specs.Standing.{limits}
use Rattle.model.specs.Entries.{Placeholder, Rings}
use Rattle.model.specs.Hands.{Context}
use Rattle.model.specs.Calls.{context}
use Rattle.model.specs.Requests.{state_after, policy}
use Rattle.shard.specs.declared.layout.Layout.{Layout}
use Rattle.shard.specs.Layout.{Places, slots}
use Rattle.shard.specs.Shows.{Shows}

module _ {S K V : Type 0} (weigh : K → V → ℕ) (l : Life S K V) where
  -- what the hands of the model work with, for this shard, from the request state s₀ on
  abbrev pub context_of : Keying K → Layout K V → S → Context K V
  context_of e x s₀ = context e (policy weigh l s₀) (limits x.settings)

  -- The shard went from x to x' as f goes from the model's rings to a new answer and new rings, and the request state from q
  -- to q'.
  abbrev pub FollowsHand : (Context K V → Rings K V → Bool × Rings K V) → Layout K V → Layout K V → Bool → S → S → Type 0
  FollowsHand f x x' answer q q' =
      (e : Keying K) (s₀ : S) (p : Places) (t : Rings K V) (ps : List (Placeholder K)) → q ≡ state_after l s₀ t.events → Shows e x p t ps →
      ((f (context_of e x s₀) t).0 ≡ answer) × (q' ≡ state_after l s₀ (f (context_of e x s₀) t).1.events) × ((p' : Places) × Shows e x' p' (f (context_of e x s₀) t).1 ps)

  -- the same, where there is no answer
  abbrev pub FollowsRings : (Context K V → Rings K V → Rings K V) → Layout K V → Layout K V → S → S → Type 0
  FollowsRings f x x' q q' =
      (e : Keying K) (s₀ : S) (p : Places) (t : Rings K V) (ps : List (Placeholder K)) → q ≡ state_after l s₀ t.events → Shows e x p t ps →
      (q' ≡ state_after l s₀ (f (context_of e x s₀) t).events) × ((p' : Places) × Shows e x' p' (f (context_of e x s₀) t) ps)

module _ {K V : Type 0} where
  -- how far the hands can still go: a step that says yes takes one out of the hot ring, or one out of the cold ring
  -- at the price of one more in the hot ring
  abbrev pub left_to_do : Layout K V → ℕ
  left_to_do x = x.hot.len + 2 * x.cold.len

  -- the settings, the tickets given out and the number of slots are as they were
  pub record SameTerms (x x' : Layout K V) : Type 0 where
    pub settings : x'.settings ≡ x.settings
    pub issued : x'.issued ≡ x.issued
    pub size : length (slots x') ≡ length (slots x)

  -- the same, and no slot is used that was free
  pub record NoMoreUsed (x x' : Layout K V) : Type 0 where
    pub terms : SameTerms x x'
    pub used : x'.slab.used ≤ x.slab.used

  -- a step of a hand with this answer: yes makes what is left to do less
  pub record Falls (answer : Bool) (x x' : Layout K V) : Type 0 where
    pub yes : answer ≡ true → left_to_do x' < left_to_do x
    pub no : answer ≡ false → left_to_do x' ≡ left_to_do x
