-- The rule of the shared words: the invariant of the words and of all that the seats have seen,
-- between any two steps.
use Rattle.std.specs.Prelude.{◌≡◌, ℕ, zero, suc, ◌+◌, ◌*◌, ◌/◌, ◌%◌, ◌^◌, ◌<◌, ◌≤◌, ◌⊎◌, Bool, true}
use Rattle.std.specs.Prelude.{false, ◌==◌, if◌then◌else◌, min, List, [], ◌∷◌, ◌++◌, length}
use Rattle.std.specs.Prelude.{slice_index, Some, None}
use mathlib.Core.Option.{some}
use lib.ListN.{get_elem?}
use Rattle.patterns.specs.declared.Outcome.{Outcome}
use Rattle.atomic_table.specs.Seated.{TableId}
use Rattle.atomic_table.specs.Table.{State, Me, Step}
use Rattle.fault_ledger.specs.declared.Shape.{Shape}
use Rattle.fault_ledger.specs.declared.PieceState.{PieceState}
use Rattle.fault_ledger.specs.declared.PieceState.TheVariants as state
use Rattle.fault_ledger.specs.declared.Event.{Event}
use Rattle.fault_ledger.specs.declared.words.Post.{Post}
use Rattle.fault_ledger.specs.declared.words.View.{View}
use Rattle.fault_ledger.specs.History.{History, piece_count, state_of, claims, held_by, entry}
use Rattle.fault_ledger.specs.History.{ContinuesWithout}
use Rattle.fault_ledger.specs.Answer.{IsLegal}
use Rattle.fault_ledger.specs.Face.{shape_fault}
use Rattle.fault_ledger.specs.Seats.{Place, Sitter}

-- a field of a word, which has eight fields of eight bits, the first its lowest bits
abbrev pub field : ℕ → ℕ → ℕ
field n j = n / 2 ^ (8 * j) % 2 ^ 8

-- the number of the word in which a piece stands; word 0 is the cursor, and then come eight pieces
-- to a word
abbrev pub word_with : ℕ → ℕ
word_with piece = piece / 8 + 1

-- the number of words
abbrev pub word_count : Shape → ℕ
word_count shape = (piece_count shape + 7) / 8 + 1

-- a word with this code in the field of a piece, and 0 in the others
abbrev pub in_field : ℕ → ℕ → ℕ
in_field piece code = code * 2 ^ (8 * (piece % 8))

-- the field of a piece
abbrev pub field_in : List ℕ → ℕ → ℕ
field_in words piece = field (slice_index words (word_with piece)) (piece % 8)

-- the code of a piece, which stands in its field
abbrev pub code_of : PieceState → ℕ
code_of state.Open = 0
code_of state.Clear = 1
code_of state.Skipped = 2
code_of (state.Hit k) = 128 + k

-- the state that a code stands for
abbrev pub state_at : ℕ → PieceState
state_at n =
    if n == 0 then state.Open
    else if n == 1 then state.Clear
    else if n == 2 then state.Skipped
    else state.Hit (n % 64)

-- the sum of a number over all views
abbrev pub total : (View → ℕ) → List View → ℕ
total f [] = 0
total f (v ∷ views) = f v + total f views

-- how many times the worker is among the posts
abbrev pub times : ℕ → List Post → ℕ
times w [] = 0
times w (p ∷ posts) = (if p.worker == w then 1 else 0) + times w posts

-- the number of posts that have got Exhausted
abbrev pub exhausted_of : List Post → ℕ
exhausted_of [] = 0
exhausted_of (p ∷ posts) = (if p.exhausted then 1 else 0) + exhausted_of posts

abbrev pub ForEach : (Post → Type 0) → List Post → Type 0
ForEach P [] = Unit {0}
ForEach P (p ∷ posts) = P p × ForEach P posts

-- the knowledge of a post: the history begins with it, and has no further event of its worker,
-- which is one of the ledger's. If it has got Exhausted, all pieces are claimed, and it holds none
pub record Knows (shape : Shape) (h : History) (of : Shape) (p : Post) : Type 0 where
  pub same : of ≡ shape
  pub among : p.worker < shape.workers
  pub newer : ContinuesWithout p.worker h p.seen
  pub done : p.exhausted ≡ true → (held_by p.worker p.seen ≡ None) × (claims p.seen
      ≡ piece_count shape)

-- The words and the views belong to this legal history. Word 0 is the cursor, which counts the
-- claims that were tried, and field p % 8 of word p / 8 + 1 has the code of piece p. Past the
-- pieces the cursor counts each post that has got Exhausted, once. There are at most as many posts
-- as workers, and no worker has two.
pub record IsKeptBy (shape : Shape) (h : History) (words : List ℕ)
    (views : List View) : Type 0 where
  pub limits : shape_fault shape ≡ None
  pub legal : IsLegal shape h
  pub sized : length words ≡ word_count shape
  pub marked : (p : ℕ) → p < piece_count shape → field_in words p ≡ code_of (entry p h)
  pub counted : claims h ≡ min (slice_index words 0) (piece_count shape)
  pub bounded : slice_index words 0 ≤ piece_count shape + total (λ v. exhausted_of v.posts) views
  pub staffed : total (λ v. length v.posts) views ≤ shape.workers
  pub apart : (w : ℕ) → total (λ v. times w v.posts) views ≤ 1
  pub known : (id : ℕ) (v : View) → get_elem? views id ≡ some v
      → ForEach (Knows shape h v.shape) v.posts

-- the rule: there is one legal history to which the words belong, and which begins with all that
-- was seen
abbrev pub IsKept : {S : Type 0} → Shape → State S View → Type 0
IsKept shape t = (h : History) × IsKeptBy shape h t.words t.views

abbrev pub post : ℕ → Bool → History → Post
post w exhausted seen = record { worker = w; exhausted = exhausted; seen = seen }

-- the view of a token that stands for one worker
abbrev pub one : Shape → ℕ → Bool → History → View
one shape w exhausted seen = record { shape = shape; posts = post w exhausted seen ∷ [] }

-- a fact on the one worker of a view; it is empty for a view of none or of several
abbrev pub OfPosts : List Post → (Post → Type 0) → Type 0
OfPosts [] P = Unit {0}
OfPosts (p ∷ []) P = P p
OfPosts (p ∷ q ∷ posts) P = Unit {0}

-- after the seen history and events of others, the worker's event is legal, and is the last that is
-- seen
abbrev pub Adds : Shape → Post → Event → View → Type 0
Adds shape p e v = (before : History) × ContinuesWithout p.worker before p.seen
    × IsLegal shape (e ∷ before) × (v ≡ one shape p.worker p.exhausted (e ∷ before))

-- a claim that found the number n: it is of piece n, or all pieces are claimed
abbrev pub Claims : {S : Type 0} → Step S → Me S View → ℕ → Me S View → Type 0
Claims step me n me' = (me'.1 ≡ me.1) × OfPosts me.0.posts (λ p.
    (h : History) × ContinuesWithout p.worker h p.seen
    × (((n < piece_count me.0.shape) × (claims h ≡ n)
    × IsLegal me.0.shape (Event.Claim p.worker ∷ h)
    × (me'.0 ≡ one me.0.shape p.worker false (Event.Claim p.worker ∷ h)))
    ⊎ ((piece_count me.0.shape ≤ n) × (claims h ≡ piece_count me.0.shape) × IsLegal me.0.shape h
    × (me'.0 ≡ one me.0.shape p.worker true h))))

-- a fetch_add of an outcome's code to the field of the piece held, which is 0, reports that outcome
abbrev pub Reports : {S : Type 0} → Step S → Me S View → ℕ → Me S View → Type 0
Reports step me n me' = (me'.1 ≡ me.1) × OfPosts me.0.posts (λ p.
    (o : Outcome)
    × ((piece : ℕ) → held_by p.worker p.seen ≡ Some piece
    → step.first ≡ in_field piece (code_of (state_of o)))
    × Adds me.0.shape p (Event.Report p.worker o) me'.0)

-- a fetch_add that drops a piece
abbrev pub Drops : {S : Type 0} → Step S → Me S View → ℕ → Me S View → Type 0
Drops step me n me' = (me'.1 ≡ me.1)
    × OfPosts me.0.posts (λ p. Adds me.0.shape p (Event.Drop p.worker) me'.0)

-- every worker of a view has seen this history
abbrev pub see : History → List Post → List Post
see h [] = []
see h (p ∷ posts) = post p.worker p.exhausted h ∷ see h posts

-- a load that found n: each piece of that word has the state with the code in its field, in a legal
-- history which begins with all that was seen
abbrev pub Looks : {S : Type 0} → Step S → Me S View → ℕ → Me S View → Type 0
Looks step me n me' = (me'.1 ≡ me.1) × ((h : History)
    × ((p : ℕ) → step.word ≡ word_with p → p < piece_count me.0.shape
    → field n (p % 8) ≡ code_of (entry p h))
    × IsLegal me.0.shape h
    × ForEach (λ p. ContinuesWithout p.worker h p.seen) me.0.posts
    × (me'.0 ≡ record { shape = me.0.shape; posts = see h me.0.posts }))

-- how the workers of a view part: the first, and the others
abbrev pub front : List Post → List Post
front [] = []
front (p ∷ posts) = p ∷ []

abbrev pub others : List Post → List Post
others [] = []
others (p ∷ posts) = posts

abbrev pub no_shape : Shape
no_shape = record { classes = 0; tests = 0; workers = 0 }

-- the view of nobody
abbrev pub nobody : View
nobody = record { shape = no_shape; posts = [] }

-- the workers from w on, n of them, who have seen nothing
abbrev pub newcomer_posts : ℕ → ℕ → List Post
newcomer_posts w zero = []
newcomer_posts w (suc n) = post w false [] ∷ newcomer_posts (suc w) n

abbrev pub everybody : Shape → View
everybody shape = record { shape = shape; posts = newcomer_posts 0 shape.workers }

abbrev pub front_of : View → View
front_of v = record { shape = v.shape; posts = front v.posts }

abbrev pub others_of : View → View
others_of v = record { shape = v.shape; posts = others v.posts }

abbrev pub both_of : View → View → View
both_of v w = record { shape = v.shape; posts = w.posts ++ v.posts }

-- a table of words, as a ledger's place
abbrev pub place_of : TableId → Shape → Place
place_of table shape = record { table = table; shape = shape }

-- the first view of a token, and the first post of a view
abbrev pub first_shape : List View → Shape
first_shape [] = no_shape
first_shape (v ∷ views) = v.shape

abbrev pub first_post : List Post → Post
first_post [] = post 0 false []
first_post (p ∷ posts) = p

abbrev pub first_posts : List View → List Post
first_posts [] = []
first_posts (v ∷ views) = v.posts

-- a token that stands for one worker, as a seat
abbrev pub sitter : TableId → List View → Sitter
sitter table views = record {
  place = place_of table (first_shape views);
  worker = (first_post (first_posts views)).worker;
  exhausted = (first_post (first_posts views)).exhausted;
  seen = (first_post (first_posts views)).seen;
}

abbrev pub StandsAlone : List View → Sitter → Type 0
StandsAlone views a = views ≡ one a.place.shape a.worker a.exhausted a.seen ∷ []

-- a token that stands for several workers: its ledger, and its posts
pub record Crowd : Type 0 where
  pub place : Place
  pub posts : List Post

abbrev pub crowd : TableId → View → Crowd
crowd table v = record { place = place_of table v.shape; posts = v.posts }

abbrev pub post_of : Sitter → Post
post_of a = post a.worker a.exhausted a.seen
