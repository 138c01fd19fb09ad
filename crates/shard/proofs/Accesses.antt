-- Get, peek and remove, against the model's, by what the key finds.
use Rattle.std.proofs.Common.{◌≡◌, ◌⊎◌, ◌∷◌, List, sym, refl, subst, Some, None, Option}
use Rattle.interface.specs.Meaning.{Keying}
use Rattle.model.specs.Entries as model
use Rattle.model.specs.Calls as calls
use Rattle.model.specs.Calls.{State, Answer}
use Rattle.shard.specs.declared.entry.Resident.{Resident}
use Rattle.shard.specs.declared.entry.Placeholder.{Placeholder}
use Rattle.shard.specs.declared.entry.Entry.TheVariants as E
use Rattle.shard.specs.declared.found.Found.{Found}
use Rattle.shard.specs.declared.layout.Layout.{Layout}
use Rattle.shard.specs.Layout.{Places}
use Rattle.shard.specs.Shows.{Shows}
use Rattle.shard.specs.Steps.{SameTerms}
use Rattle.shard.specs.Finds.{Agrees, Finds}
use Rattle.shard.specs.Inserts.{Expels, Reads, DropsGhost, DropsPlaceholder}
use Rattle.shard.specs.Depicts.{FollowsPlainly}
use Rattle.shard.specs.Arrivals.{as_spot}
use Rattle.shard.proofs.Calls.{same_content, resident_spot, Keeps, Comes, follows_plainly}
use Rattle.shard.proofs.Resettling.{same_terms}
use Rattle.shard.proofs.Finding.{of_none, of_resident, of_placeholder, of_ghost, of_other}

module _ {K V : Type 0} (e : Keying K) (keep : Keeps V e) (key : K) (x : Layout K V) where
  -- only the rings and the placeholders change
  came : {x' : Layout K V} {s : State K V} {t : model.Rings K V} {ps : List (model.Placeholder K)} {a answer : Answer K V} → a ≡ answer → (p : Places) → Shows e x' p t ps → Comes e x' s (calls.with_rings t (calls.with_placeholders ps s), a) answer
  came is p shown = record { answered = is; places = p; shown = shown; same_limits = refl; same_next = refl; same_slots = refl; same_edit = refl }

  -- a call follows the model's if it comes to the same, whatever the model finds
  module _ {x' : Layout K V} (terms : SameTerms x x') {r : Option (Found K V)} (finds : Finds e key x r) (answer : Answer K V) where
    get_by : ((s : State K V) (p : Places) (shows : Shows e x p s.rings s.placeholders) (f : calls.Found K V) → Agrees x p shows.offs shows.waits f r → Comes e x' s (calls.do_get s (as_spot f)) answer) → FollowsPlainly e (calls.get key) x x' answer
    get_by k =
        follows_plainly e (calls.get key) x x' answer keep terms
        (λ n s d. subst (λ (z : model.Spot K V). Comes e x' s (calls.do_get s z) answer) (sym (resident_spot e key s))
        (k s d.places d.shows (calls.search_for e key s) (finds d.places s d.shows d.standing.unique)))

    peek_by : ((s : State K V) (p : Places) (shows : Shows e x p s.rings s.placeholders) (f : calls.Found K V) → Agrees x p shows.offs shows.waits f r → Comes e x' s (calls.do_peek s (as_spot f)) answer) → FollowsPlainly e (calls.peek key) x x' answer
    peek_by k =
        follows_plainly e (calls.peek key) x x' answer keep terms
        (λ n s d. subst (λ (z : model.Spot K V). Comes e x' s (calls.do_peek s z) answer) (sym (resident_spot e key s))
        (k s d.places d.shows (calls.search_for e key s) (finds d.places s d.shows d.standing.unique)))

    remove_by : ((s : State K V) (p : Places) (shows : Shows e x p s.rings s.placeholders) (f : calls.Found K V) → Agrees x p shows.offs shows.waits f r → Comes e x' s (calls.do_remove s f) answer) → FollowsPlainly e (calls.remove key) x x' answer
    remove_by k =
        follows_plainly e (calls.remove key) x x' answer keep terms
        (λ n s d. k s d.places d.shows (calls.search_for e key s) (finds d.places s d.shows d.standing.unique))

  -- ---- nothing is found
  module _ (finds : Finds e key x None) where
    pub get_none : FollowsPlainly e (calls.get key) x x calls.none
    get_none = get_by (same_terms x) finds calls.none (λ s p shows. of_none shows (λ f. Comes e x s (calls.do_get s (as_spot f)) calls.none) (came refl p shows))

    pub peek_none : FollowsPlainly e (calls.peek key) x x calls.none
    peek_none = peek_by (same_terms x) finds calls.none (λ s p shows. of_none shows (λ f. Comes e x s (calls.do_peek s (as_spot f)) calls.none) (came refl p shows))

    pub remove_none : FollowsPlainly e (calls.remove key) x x calls.none
    remove_none = remove_by (same_terms x) finds calls.none (λ s p shows. of_none shows (λ f. Comes e x s (calls.do_remove s f) calls.none) (came refl p shows))

  -- ---- an entry is found
  module _ (found : Found K V) (finds : Finds e key x (Some found)) where
    -- a resident
    module _ (r : Resident K V) (is : found.entry ≡ E.Resident r) where
      pub get_resident : {x' : Layout K V} → SameTerms x x' → Reads found.at r x x' → FollowsPlainly e (calls.get key) x x' (calls.found r.key r.value)
      get_resident {x'} terms reads =
          get_by terms finds (calls.found r.key r.value)
          (λ s p shows. of_resident shows (λ f. Comes e x' s (calls.do_get s (as_spot f)) (calls.found r.key r.value)) found.at found.entry r is
          (λ w b a m eq lies.
          let z = reads e p s.rings s.placeholders shows w b a m eq lies in
          came (cc) z.0 z.1))

      pub peek_resident : FollowsPlainly e (calls.peek key) x x (calls.copied r.value)
      peek_resident =
          peek_by (same_terms x) finds (calls.copied r.value)
          (λ s p shows. of_resident shows (λ f. Comes e x s (calls.do_peek s (as_spot f)) (calls.copied r.value)) found.at found.entry r is
          (λ w b a m eq lies. came (cc) p shows))

      pub remove_resident : {x' : Layout K V} → SameTerms x x' → Expels found.at r x x' → FollowsPlainly e (calls.remove key) x x' (calls.found r.key r.value)
      remove_resident {x'} terms expels =
          remove_by terms finds (calls.found r.key r.value)
          (λ s p shows. of_resident shows (λ f. Comes e x' s (calls.do_remove s f) (calls.found r.key r.value)) found.at found.entry r is
          (λ w b a m eq lies.
          let z = expels e p s.rings s.placeholders shows w b a m eq lies in
          came (cc) z.0 (same_content (model.removed m.number m.key m.val ∷ s.rings.events) z.1)))

    -- no resident
    module _ (other : ((q : Placeholder K) × (found.entry ≡ E.Placeholder q)) ⊎ (found.entry ≡ E.Ghost)) where
      pub get_other : FollowsPlainly e (calls.get key) x x calls.none
      get_other =
          get_by (same_terms x) finds calls.none
          (λ s p shows. of_other shows (λ f. Comes e x s (calls.do_get s (as_spot f)) calls.none) found.at found.entry other (λ b a m. came refl p shows) (λ b a g. came refl p shows))

      pub peek_other : FollowsPlainly e (calls.peek key) x x calls.none
      peek_other =
          peek_by (same_terms x) finds calls.none
          (λ s p shows. of_other shows (λ f. Comes e x s (calls.do_peek s (as_spot f)) calls.none) found.at found.entry other (λ b a m. came refl p shows) (λ b a g. came refl p shows))

    pub remove_placeholder : {x' : Layout K V} (q : Placeholder K) → found.entry ≡ E.Placeholder q → SameTerms x x' → DropsPlaceholder found.at x x' → FollowsPlainly e (calls.remove key) x x' calls.none
    remove_placeholder {x'} q is terms drops =
        remove_by terms finds calls.none
        (λ s p shows. of_placeholder shows (λ f. Comes e x' s (calls.do_remove s f) calls.none) found.at found.entry q is
        (λ b a m ks ds same split before after.
        let z = drops e p s.rings s.placeholders shows b a ks ds split before after in
        came refl z.0 z.1))

    pub remove_ghost : {x' : Layout K V} → found.entry ≡ E.Ghost → SameTerms x x' → DropsGhost found.at x x' → FollowsPlainly e (calls.remove key) x x' calls.none
    remove_ghost {x'} is terms drops =
        remove_by terms finds calls.none
        (λ s p shows. of_ghost shows (λ f. Comes e x' s (calls.do_remove s f) calls.none) found.at found.entry is
        (λ b a ks ds g split before after.
        let z = drops e p s.rings s.placeholders shows b a ks ds split before after in
        came refl z.0 z.1))
