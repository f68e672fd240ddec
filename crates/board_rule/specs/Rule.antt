-- The rule of the board: its words are those of posts for which all holds, and what each seat knows of its posts is so.
-- This project's own.
use Rattle.std.specs.Prelude.{◌≡◌, ◌≢◌, ℕ, ◌+◌, ◌*◌, ◌<◌, List, [], ◌∷◌, map, length, slice_index}
use mathlib.Core.Option.{some}
use lib.ListN.{get_elem?}
use Rattle.atomic_table.specs.Table.{State}
use Rattle.token_net.specs.Families.{one_if}
use Rattle.token_net.specs.Posts.{Leader, Posts, PostsHold}
use Rattle.board_rule.specs.Views.{Named, HeldLeader, HeldLagger, course}
use Rattle.board_rule.specs.declared.view.View.{View}

-- P holds of each element
abbrev pub Each : {A : Type 0} → (A → Type 0) → List A → Type 0
Each P [] = Unit {0}
Each P (x ∷ xs) = P x × Each P xs

-- ---- words

-- The fire word stands first, then for each number the leader's word and the lagger's. Words that are used stand 8
-- apart, so that each has a cache line of 64 bytes to itself.
abbrev pub fire_word : ℕ
fire_word = 0

abbrev pub leader_word : ℕ → ℕ
leader_word p = 16 * p + 8

abbrev pub lagger_word : ℕ → ℕ
lagger_word q = 16 * q + 16

abbrev pub word_count : ℕ → ℕ
word_count parts = 16 * parts + 8

-- a leader's word: twice its position, and 1 more where it is halted
abbrev pub leader_code : Leader → ℕ
leader_code x = 2 * x.at + one_if x.halted

-- the words are those of these posts
pub record IsCoded (parts : ℕ) (words : List ℕ) (c : Posts) : Type 0 where
  pub wide : length words ≡ word_count parts
  pub fire : slice_index words fire_word ≡ c.fire
  pub leader : (p : ℕ) → p < parts → slice_index words (leader_word p) ≡ leader_code (c.leader p)
  pub lagger : (q : ℕ) → q < parts → slice_index words (lagger_word q) ≡ (c.lagger q).at

-- ---- seats

-- the seat j, which names a run, has this leader's post: it has it alone, as it is, and the run is the board's
abbrev pub HasLeader : (ℕ → ℕ) → Named → Posts → ℕ → Named → HeldLeader → Type 0
HasLeader home n c j named k = (k.number < n.parts) × (home k.number ≡ j) × (k.post ≡ c.leader k.number)
    × (named ≡ n)

-- the same of a lagger's post
abbrev pub HasLagger : (ℕ → ℕ) → Named → Posts → ℕ → Named → HeldLagger → Type 0
HasLagger home n c j named k = (k.number < n.parts) × (home k.number ≡ j) × (k.post ≡ c.lagger k.number)
    × (named ≡ n)

-- the numbers of the posts that a seat has
abbrev pub leader_numbers : List HeldLeader → List ℕ
leader_numbers ks = map (λ k. k.number) ks

abbrev pub lagger_numbers : List HeldLagger → List ℕ
lagger_numbers ks = map (λ k. k.number) ks

-- no number stands twice in the list
abbrev pub Apart : List ℕ → Type 0
Apart [] = Unit {0}
Apart (p ∷ ps) = Each (λ q. q ≢ p) ps × Apart ps

-- what the seat j knows is so, and no post stands in it twice
pub record Knows (home_leader home_lagger : ℕ → ℕ) (n : Named) (c : Posts) (j : ℕ) (v : View) : Type 0 where
  pub leaders : Each (HasLeader home_leader n c j v.named) v.leaders
  pub laggers : Each (HasLagger home_lagger n c j v.named) v.laggers
  pub leaders_apart : Apart (leader_numbers v.leaders)
  pub laggers_apart : Apart (lagger_numbers v.laggers)

-- the board at a moment, under a run: there are posts, and for each post the seat that has it, so that what holds of
-- posts holds of these, the words are theirs, and what each seat knows is so
pub record Kept (n : Named) (s : State ℕ View) : Type 0 where
  pub posts : Posts
  pub home_leader : ℕ → ℕ
  pub home_lagger : ℕ → ℕ
  pub holds : PostsHold (course n) posts
  pub coded : IsCoded n.parts s.words posts
  pub knows : (j : ℕ) (v : View) → get_elem? s.views j ≡ some v → Knows home_leader home_lagger n posts j v

-- the rule of the board
pub record Ruled (s : State ℕ View) : Type 0 where
  pub named : Named
  pub kept : Kept named s
