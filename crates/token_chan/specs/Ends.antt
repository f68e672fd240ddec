-- The states of a channel's two ends, and what their calls answer. This project's own.
--
-- A token that the taker has read it hands back (`hand_back`), and it is then *returned*. The giver gets returned
-- tokens in that order (`blank`), and each is then *reused*: it is filled anew and given again.
use Rattle.std.specs.Prelude.{◌≡◌, ℕ, ◌+◌, ◌<◌, ◌≤◌, min, List, [], ◌∷◌, ◌++◌, Option, Some, None, All, length}
use Rattle.atomic_table.specs.Seated.{TableId}
use Rattle.named_run.specs.Named.{HasShape, token_of}
use Rattle.named_run.specs.declared.token.Token.{Token}
use Rattle.token_chan.specs.Names.{Name}

-- which channel it is, by the marks of its queue of tokens and of its queue of returned ones
pub record Queues : Type 0 where
  pub tokens_id : TableId
  pub returns_id : TableId

-- the giving end: the count given, how many it knows to be taken; the tokens that it reused, oldest first, how many it
-- knows to be returned; how many tokens it has given itself, how often it was refused
pub record Giver : Type 0 where
  pub name : Name
  pub queues : Queues
  pub given : ℕ
  pub known : ℕ
  pub reused : List Token
  pub known_returned : ℕ
  pub sent : ℕ
  pub refusals : ℕ

-- the taking end: the count taken, how many it knows to be given; the tokens that it returned, oldest first, how many
-- it knows to be reused; how often it was refused
pub record Taker : Type 0 where
  pub name : Name
  pub queues : Queues
  pub taken : ℕ
  pub known : ℕ
  pub returned : List Token
  pub known_reused : ℕ
  pub refusals : ℕ

-- the token that the giver gives next, and that the taker takes next
abbrev pub next_given : Giver → Token
next_given g = token_of g.name.run g.name.channel g.given

abbrev pub next_taken : Taker → Token
next_taken t = token_of t.name.run t.name.channel t.taken

-- the last value of a count; a count rises by one until it stands there
abbrev pub last_count : ℕ
last_count = 18446744073709551615

abbrev pub one_more : ℕ → ℕ
one_more k = min (k + 1) last_count

-- at one moment the channel was full, by how many were taken then
abbrev pub WasFull : Giver → Type 0
WasFull g = (taken : ℕ) × (g.known ≤ taken) × (taken + g.name.depth ≡ g.given)

-- at one moment it was empty, by how many were given then
abbrev pub WasEmpty : Taker → Type 0
WasEmpty t = (given : ℕ) × (t.known ≤ given) × (given ≡ t.taken)

-- at one moment there was no returned token, by how many were returned then
abbrev pub NoneWasReturned : Giver → Type 0
NoneWasReturned g = (returned : ℕ) × (g.known_returned ≤ returned) × (returned ≡ length g.reused)

-- at one moment there was no room for one, by how many were reused then
abbrev pub ReturnsWereFull : Taker → Type 0
ReturnsWereFull t = (reused : ℕ) × (t.known_reused ≤ reused) × (reused + t.name.depth ≡ length t.returned)

-- ---- the calls

-- the token was given, and the end may know of more that are taken
abbrev pub Gave : Giver → Giver → Type 0
Gave old new = (known : ℕ) × (old.known ≤ known)
    × (new ≡ record old { given = old.given + 1; sent = one_more old.sent; known = known })

-- a call was refused, and the end may know of more that are taken
abbrev pub GiverRefused : Giver → Giver → Type 0
GiverRefused old new = (known : ℕ) × (old.known ≤ known)
    × (new ≡ record old { refusals = one_more old.refusals; known = known })

-- a token was taken, and the end may know of more that are given
abbrev pub Took : Taker → Taker → Type 0
Took old new = (known : ℕ) × (old.known ≤ known) × (new ≡ record old { taken = old.taken + 1; known = known })

-- a call was refused, and the end may know of more that are given
abbrev pub TakerRefused : Taker → Taker → Type 0
TakerRefused old new = (known : ℕ) × (old.known ≤ known)
    × (new ≡ record old { refusals = one_more old.refusals; known = known })

-- this token is reused, after those reused before, and the end may know of more that are returned
abbrev pub TookBack : Token → Giver → Giver → Type 0
TookBack x old new = (known : ℕ) × (old.known_returned ≤ known)
    × (new ≡ record old { reused = old.reused ++ x ∷ []; known_returned = known })

-- this token is returned, and the end may know of more that are reused
abbrev pub HandedBack : Token → Taker → Taker → Type 0
HandedBack x old new = (known : ℕ) × (old.known_reused ≤ known)
    × (new ≡ record old { returned = old.returned ++ x ∷ []; known_reused = known })

-- ---- what the calls answer

-- the token that was to be given came back, since the channel was full
abbrev pub NotGiven : Token → Giver → Giver → Token → Type 0
NotGiven token old new t = (t ≡ token) × WasFull old × GiverRefused old new

-- a returned token of the channel's shape came, or none, since there was none
abbrev pub CameBlank : Giver → Giver → Token → Type 0
CameBlank old new t = HasShape old.name.run old.name.channel t × TookBack t old new

abbrev pub CameNone : Giver → Giver → Type 0
CameNone old new = NoneWasReturned old × GiverRefused old new

-- the channel's oldest token was taken, or none, since it was empty
abbrev pub TookNext : Taker → Taker → Token → Type 0
TookNext old new t = (t ≡ next_taken old) × Took old new

abbrev pub TookNone : Taker → Taker → Type 0
TookNone old new = WasEmpty old × TakerRefused old new

-- the token that was to be returned came back, since the queue of returned ones was full
abbrev pub NotHandedBack : Token → Taker → Taker → Token → Type 0
NotHandedBack token old new t = (t ≡ token) × ReturnsWereFull old × TakerRefused old new

-- ---- both ends

-- the two ends of one channel
pub record AreEnds (g : Giver) (t : Taker) : Type 0 where
  pub name : g.name ≡ t.name
  pub queues : g.queues ≡ t.queues

-- each end as it is once it knows the other's counts, and counts refusals anew
abbrev pub giver_caught_up : Giver → Taker → Giver
giver_caught_up g t = record g { known = t.taken; known_returned = length t.returned; refusals = 0 }

abbrev pub taker_caught_up : Giver → Taker → Taker
taker_caught_up g t = record t { known = g.given; known_reused = length g.reused; refusals = 0 }

-- how they stand at one moment: the channel holds what is given and not taken, at most as many as its depth; and no end
-- knows of more than is so
pub record TokensStand (g : Giver) (t : Taker) : Type 0 where
  pub behind : t.taken ≤ g.given
  pub room : g.given ≤ t.taken + g.name.depth
  pub giver_knows : g.known ≤ t.taken
  pub taker_knows : t.known ≤ g.given

-- and the tokens that are returned and wait to be reused are at most as many
pub record ReturnsStand (g : Giver) (t : Taker) : Type 0 where
  pub waiting : List Token
  pub in_order : g.reused ++ waiting ≡ t.returned
  pub room : length waiting ≤ g.name.depth
  pub giver_knows : g.known_returned ≤ length t.returned
  pub taker_knows : t.known_reused ≤ length g.reused

-- a channel that begins at the cycle i with these tokens to be filled, which count as returned: it holds that cycle's
-- token, and each end knows the other's count
pub record AreNewEnds (x : Name) (i : ℕ) (blanks : List Token) (g : Giver) (t : Taker) : Type 0 where
  pub ends : AreEnds g t
  pub name : g.name ≡ x
  pub given : (g.given ≡ i + 1) × (g.known ≡ i) × (g.sent ≡ 0) × (g.refusals ≡ 0)
  pub taken : (t.taken ≡ i) × (t.known ≡ i + 1) × (t.refusals ≡ 0)
  pub reused : (g.reused ≡ []) × (g.known_returned ≡ length blanks)
  pub returned : (t.returned ≡ blanks) × (t.known_reused ≡ 0)

-- the token that a channel holds first, or none where as many are taken as given
abbrev pub OldestIs : Giver → Taker → Option Token → Type 0
OldestIs g t None = t.taken ≡ g.given
OldestIs g t (Some x) = (t.taken < g.given) × (x ≡ next_taken t)

-- what a closed channel leaves: its oldest token; and behind those that were there before, all that were returned and
-- wait to be reused, in order, each of its shape
pub record IsClosed (g : Giver) (t : Taker) (first : Option Token) (before used : List Token) : Type 0 where
  pub oldest : OldestIs g t first
  pub waiting : List Token
  pub behind : used ≡ before ++ waiting
  pub all : g.reused ++ waiting ≡ t.returned
  pub few : length waiting ≤ g.name.depth
  pub shaped : All (HasShape g.name.run g.name.channel) waiting
