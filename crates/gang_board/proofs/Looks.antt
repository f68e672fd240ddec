-- The seat that has all posts looks at all words.
use Rattle.std.proofs.Common.{◌≡◌, ◌≢◌, ℕ, zero, suc, ◌+◌, ◌<◌, ◌≤◌, false, List, [], ◌∷◌, map, length, get_or, replicate, refl, sym, ap, ◌∙◌, subst, ⊎_elim, arith}
use Rattle.std.specs.List.{range_with_len}
use Rattle.std.proofs.lemmas.Bool.{cases_eq}
use Rattle.std.proofs.lemmas.List.{length-set, length-map, get_or-map, get_or-set_same, get_or-set_other}
use Rattle.std.proofs.lemmas.List.FromFn.{length-range_with_len, get_or-range_with_len, fill_by_all}
use Rattle.atomic_table.specs.Table.{Me, Step, Allows}
use Rattle.atomic_table.specs.declared.shared.Seat.{Seat}
use Rattle.token_net.specs.Posts.{Sight, Lagger, Posts, present, sight, with_sight, PostsHold}
use Rattle.board_rule.specs.Views.{Named, HeldLeader, HeldLagger, course, rested_leader, rested_lagger}
use Rattle.board_rule.specs.Rule.{Each, Ruled, leader_word, fire_word}
use Rattle.gang_board.specs.declared.board.Board.{Board}
use Rattle.board_rule.proofs.Steps.{see_fire_keeps, see_leader_keeps}
use Rattle.board_rule.specs.Plays.{Stood, sight_in, number_at, sees_fire, FindsLeader, sees_leader, saw_fire, saw_leader, with_leaders, with_laggers}
use Rattle.gang_board.specs.CatchUp.{all_present, caught_leader, caught_lagger, Looked, IsCarrier}
use Rattle.board_rule.specs.declared.view.View.{View}
use Rattle.board_rule.proofs.Lists.{each_map}

abbrev no_post_held : HeldLeader
no_post_held = record { number = 0; post = record { at = 0; halted = false; reported = false; seen = 0 }; looks = 0 }

-- the leader at a place of the list
abbrev at_place : List HeldLeader → ℕ → HeldLeader
at_place ls i = get_or ls i no_post_held

each_at : {A : Type 0} (P : A → Type 0) (xs : List A) (i : ℕ) (d : A) → Each P xs → i < length xs → P (get_or xs i d)
each_at P [] i d e l = absurd (omega (arith, l))
each_at P (x ∷ xs) zero d e l = e.0
each_at P (x ∷ xs) (suc i) d e l = each_at P xs i d e.1 (omega (arith, l))

each_of_map : {A B : Type 0} (P : B → Type 0) (f : A → B) (xs : List A) → Each P (map f xs) → Each (λ x. P (f x)) xs
each_of_map P f [] e = tt
each_of_map P f (x ∷ xs) e = (e.0, each_of_map P f xs e.1)

-- ---- two lists, element by element

abbrev pub Paired : {A B : Type 0} → (A → B → Type 0) → List A → List B → Type 0
Paired R [] [] = Unit {0}
Paired R [] (y ∷ ys) = ⊥
Paired R (x ∷ xs) [] = ⊥
Paired R (x ∷ xs) (y ∷ ys) = R x y × Paired R xs ys

-- the lagger has seen the leaders below p as they are; its number and position are as they were
pub record SeenTo (ls : List HeldLeader) (p : ℕ) (old new : HeldLagger) : Type 0 where
  pub number : new.number ≡ old.number
  pub at : new.post.at ≡ old.post.at
  pub seen : (i : ℕ) → i < p → sight new.post i ≡ present (at_place ls i).post

none_seen : (ls : List HeldLeader) (xs : List HeldLagger) → Paired (SeenTo ls 0) xs xs
none_seen ls [] = tt
none_seen ls (x ∷ xs) = (record { number = refl; at = refl; seen = λ i l. absurd (omega (arith, l)) }, none_seen ls xs)

more_seen : (ls : List HeldLeader) (parts p : ℕ) (s : Sight) → p < parts → s ≡ present (at_place ls p).post → (xs ys : List HeldLagger)
    → Paired (SeenTo ls p) xs ys → Each (λ (k : HeldLagger). length k.post.sights ≡ parts) (map (saw_leader p s) ys)
    → Paired (SeenTo ls (p + 1)) xs (map (saw_leader p s) ys)
more_seen ls parts p s l is [] [] r e = tt
more_seen ls parts p s l is [] (y ∷ ys) r e = absurd r
more_seen ls parts p s l is (x ∷ xs) [] r e = absurd r
more_seen ls parts p s l is (x ∷ xs) (y ∷ ys) r e = (
  record {
    number = r.0.number;
    at = r.0.at;
    seen = λ i b. ⊎_elim
        (λ (t : i ≡ p).
        let size = length-set y.post.sights p s in let long = e.0 in
        subst (λ (z : ℕ). sight (with_sight p s y.post) z ≡ present (at_place ls z).post) (sym t)
        (get_or-set_same y.post.sights p s (record { at = 0; halted = false }) (omega (arith, l, size, long)) ∙ is))
        (λ (ne : i ≢ p). get_or-set_other y.post.sights p i s (record { at = 0; halted = false }) ne ∙ r.0.seen i (omega (arith, b, ne)))
        (cases_eq i p);
  },
  more_seen ls parts p s l is xs ys r.1 e.1,
)

-- the numbers of a list of leaders, by place
number_at_place : (ls : List HeldLeader) (k m i : ℕ) → map (λ (x : HeldLeader). x.number) ls ≡ range_with_len k m → i < m → (i < length ls) × ((at_place ls i).number ≡ k + i)
number_at_place ls k m i e l =
    let size : length ls ≡ m = sym (length-map ls (λ (x : HeldLeader). x.number)) ∙ ap length e ∙ length-range_with_len k m in
    let there : i < length ls = omega (arith, size, l) in
    (there, sym (get_or-map (λ (x : HeldLeader). x.number) ls i no_post_held 0 there) ∙ ap (λ (xs : List ℕ). get_or xs i 0) e ∙ get_or-range_with_len k m i 0 l)

-- ---- the looks

-- the seat after looks at the words of the leaders below p
pub record Looking (old : Seat ℕ View) (p : ℕ) (now : Seat ℕ View) : Type 0 where
  pub board : now.table_id ≡ old.table_id
  pub free : now.me.1 ≡ []
  pub named : now.me.0.named ≡ old.me.0.named
  pub leaders : now.me.0.leaders ≡ old.me.0.leaders
  pub laggers : Paired (SeenTo old.me.0.leaders p) old.me.0.laggers now.me.0.laggers

pub looks_begin : (s : Seat ℕ View) → s.me.1 ≡ [] → Looking s 0 s
looks_begin s free = record { board = refl; free = free; named = refl; leaders = refl; laggers = none_seen s.me.0.leaders s.me.0.laggers }

sized : (n : Named) (v : View) → v.named ≡ n → Stood v → Each (λ (k : HeldLagger). length k.post.sights ≡ n.parts) v.laggers
sized n v same t = each_map (λ (x : HeldLagger). (x.number < v.named.parts) × (x.post ≡ t.posts.lagger x.number)) (λ (k : HeldLagger). length k.post.sights ≡ n.parts)
    (λ (x : HeldLagger) (h : (x.number < v.named.parts) × (x.post ≡ t.posts.lagger x.number)).
    ap (λ (y : Lagger). length y.sights) h.1 ∙ t.holds.sized x.number h.0 ∙ ap (λ (m : Named). m.parts) same) v.laggers t.laggers

pub look_more : (old now next : Seat ℕ View) (p found : ℕ) → map (λ (x : HeldLeader). x.number) old.me.0.leaders ≡ range_with_len 0 old.me.0.named.parts → p < old.me.0.named.parts
    → Looking old p now → next.table_id ≡ now.table_id
    → next.me ≡ (with_laggers (saw_leader p (sight_in found)) now.me.0, now.me.1) → Stood (with_laggers (saw_leader p (sight_in found)) now.me.0)
    → Each (λ (k : HeldLeader). k.number ≡ p → sight_in found ≡ present k.post) now.me.0.leaders → Looking old (p + 1) next
look_more old now next p found numbers l h board is t each =
    let ls : List HeldLeader = old.me.0.leaders in
    let place = number_at_place ls 0 old.me.0.named.parts p numbers l in
    let here = subst (Each (λ (k : HeldLeader). k.number ≡ p → sight_in found ≡ present k.post)) h.leaders each in
    let saw : sight_in found ≡ present (at_place ls p).post =
    each_at (λ (k : HeldLeader). k.number ≡ p → sight_in found ≡ present k.post) ls p no_post_held here place.0 (let e = place.1 in omega (arith, e)) in
    record {
      board = board ∙ h.board;
      free = ap (λ (m : Me ℕ View). m.1) is ∙ h.free;
      named = ap (λ (m : Me ℕ View). m.0.named) is ∙ h.named;
      leaders = ap (λ (m : Me ℕ View). m.0.leaders) is ∙ h.leaders;
      laggers = subst (Paired (SeenTo ls (p + 1)) old.me.0.laggers) (sym (ap (λ (m : Me ℕ View). m.0.laggers) is))
          (more_seen ls old.me.0.named.parts p (sight_in found) l saw old.me.0.laggers now.me.0.laggers h.laggers
          (sized old.me.0.named (with_laggers (saw_leader p (sight_in found)) now.me.0) h.named t));
    }

-- ---- where the seat may look

none_less : (xs : List HeldLagger) (n : ℕ) → map (λ (x : HeldLagger). x.number) xs ≡ range_with_len 0 n → 0 < n → 0 < length xs
none_less [] zero e l = absurd (omega (arith, l))
none_less [] (suc n) e l = absurd (let z = ap length e in omega (arith, z))
none_less (x ∷ xs) n e l = omega arith

some_lagger : (xs ys : List HeldLagger) (R : HeldLagger → HeldLagger → Type 0) → Paired R xs ys → 0 < length xs → (y : HeldLagger) × (zs : List HeldLagger) × (ys ≡ y ∷ zs)
some_lagger [] ys R r l = absurd (omega (arith, l))
some_lagger (x ∷ xs) [] R r l = absurd r
some_lagger (x ∷ xs) (y ∷ ys) R r l = (y, ys, refl)

some_leader : (xs : List HeldLeader) (n : ℕ) → map (λ (x : HeldLeader). x.number) xs ≡ range_with_len 0 n → 0 < n → (y : HeldLeader) × (zs : List HeldLeader) × (xs ≡ y ∷ zs)
some_leader [] zero e l = absurd (omega (arith, l))
some_leader [] (suc n) e l = absurd (let z = ap length e in omega (arith, z))
some_leader (x ∷ xs) n e l = (x, xs, refl)

-- the numbers of all leaders and of all laggers
pub all_numbers : (b : Board) (s : Seat ℕ View) → IsCarrier b 0 0 s → map (λ (x : HeldLeader). x.number) s.me.0.leaders ≡ range_with_len 0 s.me.0.named.parts
all_numbers b s h = let a = h.leaders.1 in let e : h.leaders.0 ≡ s.me.0.named.parts = omega (arith, a) in h.leaders.2 ∙ ap (range_with_len 0) e

lagger_numbers : (b : Board) (s : Seat ℕ View) → IsCarrier b 0 0 s → map (λ (x : HeldLagger). x.number) s.me.0.laggers ≡ range_with_len 0 s.me.0.named.parts
lagger_numbers b s h = let a = h.laggers.1 in let e : h.laggers.0 ≡ s.me.0.named.parts = omega (arith, a) in h.laggers.2 ∙ ap (range_with_len 0) e

module _ (b : Board) (old now : Seat ℕ View) (carrier : IsCarrier b 0 0 old) where
  pub look_allowed : (p : ℕ) → Looking old p now → p < old.me.0.named.parts → (slots : ℕ) (st : Step ℕ) → number_at st.word ≡ p
      → Allows Ruled slots now.id now.me (leader_word p) (λ w. w) (sees_leader st now.me)
  look_allowed p h l slots st number =
      let q = some_lagger old.me.0.laggers now.me.0.laggers (SeenTo old.me.0.leaders p) h.laggers
      (none_less old.me.0.laggers old.me.0.named.parts (lagger_numbers b old carrier) (omega (arith, l))) in
      let is : now.me ≡ (record { named = now.me.0.named; leaders = now.me.0.leaders; laggers = q.0 ∷ q.1 }, []) =
      λ i. (record { named = now.me.0.named; leaders = now.me.0.leaders; laggers = q.2 i }, h.free i) in
      subst (λ (m : Me ℕ View). Allows Ruled slots now.id m (leader_word p) (λ w. w) (sees_leader st m)) (sym is)
      (see_leader_keeps now.me.0.named slots now.id st now.me.0.leaders q.0 q.1 p (let e = ap (λ (n : Named). n.parts) h.named in omega (arith, l, e)) number)

  pub fire_allowed : (p : ℕ) → Looking old p now → 1 ≤ old.me.0.named.parts → (slots : ℕ) (st : Step ℕ)
      → Allows Ruled slots now.id now.me fire_word (λ w. w) (sees_fire st now.me)
  fire_allowed p h l slots st =
      let q = some_leader old.me.0.leaders old.me.0.named.parts (all_numbers b old carrier) (omega (arith, l)) in
      let first = h.leaders ∙ q.2 in
      let is : now.me ≡ (record { named = now.me.0.named; leaders = q.0 ∷ q.1; laggers = now.me.0.laggers }, []) =
      λ i. (record { named = now.me.0.named; leaders = first i; laggers = now.me.0.laggers }, h.free i) in
      subst (λ (m : Me ℕ View). Allows Ruled slots now.id m fire_word (λ w. w) (sees_fire st m)) (sym is)
      (see_fire_keeps now.me.0.named slots now.id st q.0 q.1 now.me.0.laggers)

-- a look as the step tells it, by the number of its leader
pub look_seen : (old now next : Seat ℕ View) (p number found : ℕ) → number ≡ p → map (λ (x : HeldLeader). x.number) old.me.0.leaders ≡ range_with_len 0 old.me.0.named.parts → p < old.me.0.named.parts
    → Looking old p now → next.table_id ≡ now.table_id
    → FindsLeader number found now.me next.me → Looking old (p + 1) next
look_seen old now next p number found e numbers l h board t =
    let u : FindsLeader p found now.me next.me = subst (λ (q : ℕ). FindsLeader q found now.me next.me) e t in
    look_more old now next p found numbers l h board u.0 u.1.0.now u.1.3

-- what leaders are once they have seen the fire word
leaders_caught : (c : Posts) (f : ℕ) → f ≡ c.fire → (ls : List HeldLeader) → map rested_leader (map (saw_fire f) ls) ≡ map (caught_leader c) ls
leaders_caught c f e [] = refl
leaders_caught c f e (k ∷ ks) = λ i. record {
  number = k.number;
  post = record { at = k.post.at; halted = k.post.halted; reported = k.post.reported; seen = e i };
  looks = 0;
} ∷ leaders_caught c f e ks i

laggers_caught : (n : Named) (c : Posts) (ls : List HeldLeader) → PostsHold (course n) c → ((i : ℕ) → i < n.parts → present (at_place ls i).post ≡ present (c.leader i))
    → (xs ys : List HeldLagger) → Paired (SeenTo ls n.parts) xs ys → Each (λ (k : HeldLagger). (k.number < n.parts) × (k.post ≡ c.lagger k.number)) ys
    → map (rested_lagger n.parts) ys ≡ map (caught_lagger n c) xs
laggers_caught n c ls holds shown [] [] r e = refl
laggers_caught n c ls holds shown [] (y ∷ ys) r e = absurd r
laggers_caught n c ls holds shown (x ∷ xs) [] r e = absurd r
laggers_caught n c ls holds shown (x ∷ xs) (y ∷ ys) r e =
    let long = ap (λ (z : Lagger). length z.sights) e.0.1 ∙ holds.sized y.number e.0.0 in
    let sights : y.post.sights ≡ all_present n c =
    fill_by_all (λ (p : ℕ). present (c.leader p)) y.post.sights n.parts (record { at = 0; halted = false }) long (λ k l. r.0.seen k l ∙ shown k l) in
    λ i. record {
      number = r.0.number i;
      post = record { at = r.0.at i; sights = sights i };
      looks = replicate n.parts 0;
    } ∷ laggers_caught n c ls holds shown xs ys r.1 e.1 i

pub looked_all : (old now next : Seat ℕ View) (found : ℕ) → map (λ (x : HeldLeader). x.number) old.me.0.leaders ≡ range_with_len 0 old.me.0.named.parts
    → Looking old old.me.0.named.parts now → next.table_id ≡ now.table_id → next.me ≡ (with_leaders (saw_fire found) now.me.0, now.me.1)
    → (t : Stood (with_leaders (saw_fire found) now.me.0)) → t.posts.fire ≡ found → Looked found old next
looked_all old now next found numbers h board is t fire =
    let n : Named = old.me.0.named in let c : Posts = t.posts in
    let ls : List HeldLeader = old.me.0.leaders in
    let parts = ap (λ (m : Named). m.parts) h.named in
    let leaders : Each (λ (k : HeldLeader). (k.number < now.me.0.named.parts) × ((saw_fire found k).post ≡ c.leader k.number)) ls =
    subst (Each (λ (k : HeldLeader). (k.number < now.me.0.named.parts) × ((saw_fire found k).post ≡ c.leader k.number))) h.leaders
    (each_of_map (λ (k : HeldLeader). (k.number < now.me.0.named.parts) × (k.post ≡ c.leader k.number)) (saw_fire found) now.me.0.leaders t.leaders) in
    let shown : (i : ℕ) → i < n.parts → present (at_place ls i).post ≡ present (c.leader i) = λ i l.
    (let place = number_at_place ls 0 n.parts i numbers l in
    let o = each_at (λ (k : HeldLeader). (k.number < now.me.0.named.parts) × ((saw_fire found k).post ≡ c.leader k.number)) ls i no_post_held leaders place.0 in
    let e : (at_place ls i).number ≡ i = (let a = place.1 in omega (arith, a)) in
    ap present o.1 ∙ ap (λ (q : ℕ). present (c.leader q)) e) in
    let laggers : Each (λ (k : HeldLagger). (k.number < n.parts) × (k.post ≡ c.lagger k.number)) now.me.0.laggers =
    each_map (λ (k : HeldLagger). (k.number < now.me.0.named.parts) × (k.post ≡ c.lagger k.number)) (λ (k : HeldLagger). (k.number < n.parts) × (k.post ≡ c.lagger k.number))
    (λ (k : HeldLagger) (o : (k.number < now.me.0.named.parts) × (k.post ≡ c.lagger k.number)). ((let a = o.0 in omega (arith, a, parts)), o.1)) now.me.0.laggers t.laggers in
    let holds : PostsHold (course n) c = subst (λ (m : Named). PostsHold (course m) c) h.named t.holds in
    record {
      posts = c;
      holds = holds;
      fire = fire;
      seat = record {
        board = board ∙ h.board;
        free = ap (λ (m : Me ℕ View). m.1) is ∙ h.free;
        named = ap (λ (m : Me ℕ View). m.0.named) is ∙ h.named;
        leaders = ap (λ (m : Me ℕ View). map rested_leader m.0.leaders) is ∙ ap (λ (xs : List HeldLeader). map rested_leader (map (saw_fire found) xs)) h.leaders
            ∙ leaders_caught c found (sym fire) ls;
        laggers = ap (λ (m : Me ℕ View). map (rested_lagger n.parts) m.0.laggers) is ∙ laggers_caught n c ls holds shown old.me.0.laggers now.me.0.laggers h.laggers laggers;
        leaders_are = subst (Each (λ (k : HeldLeader). k.post ≡ c.leader k.number)) (sym (ap (λ (m : Me ℕ View). m.0.leaders) is))
            (each_map (λ (k : HeldLeader). (k.number < now.me.0.named.parts) × (k.post ≡ c.leader k.number)) (λ (k : HeldLeader). k.post ≡ c.leader k.number)
            (λ (k : HeldLeader) (o : (k.number < now.me.0.named.parts) × (k.post ≡ c.leader k.number)). o.1) (map (saw_fire found) now.me.0.leaders) t.leaders);
        laggers_are = subst (Each (λ (k : HeldLagger). k.post ≡ c.lagger k.number)) (sym (ap (λ (m : Me ℕ View). m.0.laggers) is))
            (each_map (λ (k : HeldLagger). (k.number < n.parts) × (k.post ≡ c.lagger k.number)) (λ (k : HeldLagger). k.post ≡ c.lagger k.number)
            (λ (k : HeldLagger) (o : (k.number < n.parts) × (k.post ≡ c.lagger k.number)). o.1) now.me.0.laggers laggers);
      };
    }
