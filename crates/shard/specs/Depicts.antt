-- The shard as a model state, and what a call of it has to do with the model's call.
use Rattle.std.specs.Prelude.{◌≡◌, ℕ, suc, [], length}
use Rattle.interface.specs.Meaning.{Keying, Life}
use Rattle.settings.specs.Standing.{limits}
use Rattle.model.specs.Calls.{State, Call, Answer, closed, step}
use Rattle.model.specs.Standing.{Standing}
use Rattle.model.specs.Requests.{state_after}
use Rattle.shard.specs.declared.layout.Layout.{Layout}
use Rattle.shard.specs.Layout.{Places, slots}
use Rattle.shard.specs.Shows.{Shows}

-- The shard x is the state s of the model, between two calls: its entries, its settings, its slots and the number of the
-- next ticket. The order of residents off the rings and of placeholders, and the numbers of the ledger, have no trace in x.
pub record Depicts {K V : Type 0} (e : Keying K) (x : Layout K V) (s : State K V) : Type 0 where
  pub places : Places
  pub shows : Shows e x places s.rings s.placeholders
  pub limits : limits x.settings ≡ s.limits
  pub next : suc x.issued ≡ s.next
  pub size : length (slots x) ≡ s.slots
  pub edit : s.edit ≡ closed
  pub quiet : s.rings.events ≡ []
  pub standing : Standing e s

-- A call took the shard from x to x' and the request state from q to q' and gave this answer: so does the model's call, from
-- every state that x is, under every number for what is offered.
abbrev pub Follows : {S K V : Type 0} → Keying K → Life S K V → Call K V → Layout K V → Layout K V → Answer K V → S → S → Type 0
Follows {S} {K} {V} e l c x x' answer q q' =
    (n : ℕ) (s : State K V) → Depicts e x s → Depicts e x' (step e n c s).state × ((step e n c s).answer ≡ answer) × (q' ≡ state_after l q (step e n c s).events)

-- The same of a call that brings no lifecycle.
abbrev pub FollowsPlainly : {K V : Type 0} → Keying K → Call K V → Layout K V → Layout K V → Answer K V → Type 0
FollowsPlainly {K} {V} e c x x' answer =
    (n : ℕ) (s : State K V) → Depicts e x s → Depicts e x' (step e n c s).state × ((step e n c s).answer ≡ answer)
