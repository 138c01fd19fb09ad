-- The model's calls, with no edit open and nothing noted yet.
use Rattle.std.proofs.Common.{◌≡◌, ℕ, suc, true, eqb, List, [], sym, refl, ap, ◌∙◌, subst, arith}
use Rattle.interface.specs.Meaning.{Keying}
use Rattle.settings.specs.Standing.{limits}
use Rattle.model.specs.Lists.{Pick, pick}
use Rattle.model.specs.Entries as model
use Rattle.model.specs.Calls as calls
use Rattle.model.specs.Calls.{State, Call, Answer, Outcome, outside_edit, eventless, outcome, step}
use Rattle.model.specs.Standing.{Standing}
use Rattle.model.proofs.Lookup.{step_outside}
use Rattle.model.proofs.Runs.{laws_of_states}
use Rattle.shard.specs.declared.layout.Layout.{Layout}
use Rattle.shard.specs.Layout.{Places}
use Rattle.shard.specs.Shows.{Shows}
use Rattle.shard.specs.Steps.{SameTerms}
use Rattle.shard.specs.Depicts.{Depicts, FollowsPlainly}
use Rattle.shard.specs.Arrivals.{as_spot}

module _ {K V : Type 0} where
  pub eventless_is : (s : State K V) → s.rings.events ≡ [] → eventless s ≡ s
  eventless_is s h = ap (λ es. record { slots = s.slots; limits = s.limits; rings = record { hot = s.rings.hot; cold = s.rings.cold; off = s.rings.off; ghosts = s.rings.ghosts; events = es }; placeholders = s.placeholders; next = s.next; edit = s.edit }) (sym h)

  spot_is : (z : model.Spot K V) (q : Pick (model.Placeholder K)) (g : Pick ℕ) → z ≡ as_spot (calls.found_resident z (calls.found_placeholder q (calls.found_ghost g)))
  spot_is z q g = grind arith

  -- events do not show
  pub same_content : {e : Keying K} {x : Layout K V} {p : Places} {t : model.Rings K V} {ps : List (model.Placeholder K)} (events : List (model.Event K V)) → Shows e x p t ps → Shows e x p (record { hot = t.hot; cold = t.cold; off = t.off; ghosts = t.ghosts; events = events }) ps
  same_content events w =
      record {
        stands = w.stands;
        settled = w.settled;
        keyed = w.keyed;
        hot = w.hot;
        cold = w.cold;
        ghosts = w.ghosts;
        offs = w.offs;
        waits = w.waits;
        off = w.off;
        placeholders = w.placeholders;
        loose = w.loose;
      }

-- every call of the model keeps what its states keep
abbrev pub Keeps : {K : Type 0} (V : Type 0) → Keying K → Type 0
Keeps {K} V e = (n : ℕ) (c : Call K V) (s : State K V) → Standing e s → Standing e (step e n c s).state

module _ {K V : Type 0} (e : Keying K) where
  pub resident_spot : (k : K) (s : State K V) → calls.resident_of e k s ≡ as_spot (calls.search_for e k s)
  resident_spot k s = spot_is (calls.resident_of e k s) (pick (λ p. e.same p.key k) s.placeholders) (pick (eqb (e.code k)) s.rings.ghosts)

  pub keeps : ((x y : K) → e.same x y ≡ true → e.same y x ≡ true) → ((x y z : K) → e.same x y ≡ true → e.same y z ≡ true → e.same x z ≡ true) → Keeps V e
  keeps symmetric transitive n c s h = (laws_of_states e (record { symmetric = symmetric; transitive = transitive })).kept n c s h

  -- What a call comes to, in the model, is what the shard x' shows, with the same terms as s.
  pub record Comes (x' : Layout K V) (s : State K V) (o : State K V × Answer K V) (answer : Answer K V) : Type 0 where
    pub answered : o.1 ≡ answer
    pub places : Places
    pub shown : Shows e x' places o.0.rings o.0.placeholders
    pub same_limits : o.0.limits ≡ s.limits
    pub same_next : o.0.next ≡ s.next
    pub same_slots : o.0.slots ≡ s.slots
    pub same_edit : o.0.edit ≡ s.edit

  pub depicted : (c : Call K V) (n : ℕ) (s : State K V) (x x' : Layout K V) (answer : Answer K V) → Keeps V e → SameTerms x x' → Depicts e x s → Comes x' s (outside_edit e n c s) answer →
      Depicts e x' (step e n c s).state × ((step e n c s).answer ≡ answer) × ((step e n c s).events ≡ (outside_edit e n c s).0.rings.events)
  depicted c n s x x' answer keep terms d k =
      let st : step e n c s ≡ outcome (outside_edit e n c s) = step_outside e n c s d.edit ∙ ap (λ (z : State K V). outcome (outside_edit e n c z)) (eventless_is s d.quiet) in
      let stands : Standing e (eventless (outside_edit e n c s).0) = subst (λ (z : Outcome K V). Standing e z.state) st (keep n c s d.standing) in
      let after : Depicts e x' (eventless (outside_edit e n c s).0) = record {
        places = k.places;
        shows = same_content [] k.shown;
        limits = ap limits terms.settings ∙ d.limits ∙ sym k.same_limits;
        next = ap suc terms.issued ∙ d.next ∙ sym k.same_next;
        size = terms.size ∙ d.size ∙ sym k.same_slots;
        edit = k.same_edit ∙ d.edit;
        quiet = refl;
        standing = stands;
      } in
      (subst (λ (z : Outcome K V). Depicts e x' z.state) (sym st) after, ap (λ (z : Outcome K V). z.answer) st ∙ k.answered, ap (λ (z : Outcome K V). z.events) st)

  pub follows_plainly : (c : Call K V) (x x' : Layout K V) (answer : Answer K V) → Keeps V e → SameTerms x x' → ((n : ℕ) (s : State K V) → Depicts e x s → Comes x' s (outside_edit e n c s) answer) → FollowsPlainly e c x x' answer
  follows_plainly c x x' answer keep terms k n s d = let z = depicted c n s x x' answer keep terms d (k n s d) in (z.0, z.1)
