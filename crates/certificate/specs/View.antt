-- What a certificate's fields stand for.
use Rattle.std.specs.Prelude.{⊤, ℕ, ◌<◌, ◌≤◌, List, map, length, slice_index_or}
use Rattle.std.specs.List.{AllByRecursion}
use Rattle.certificate.specs.declared.certificate.Claim.{Claim}
use Rattle.certificate.specs.declared.certificate.Named.{Named}
use Rattle.certificate.specs.declared.certificate.Named.TheVariants as named
use Rattle.rmm_spec.specs.declared.line.Line.{Line}
use Rattle.rmm_spec.specs.declared.line.Line.TheVariants as line
use Rattle.rmm_spec.specs.CertificateText.{IsCertificate}
use Rattle.rmm_spec.specs.declared.reply.Reply.TheVariants.{Misplaced}

-- a claim at an index that there isn't
abbrev pub no_claim : Claim
no_claim = record { number = 0; reply = Misplaced }

-- the line of a name, whose claim has its index
abbrev pub line_of : List Claim → Named → Line
line_of claims (named.Keep cpu number) = line.Keep cpu number
line_of claims (named.Unfinished cpu index) =
    line.Unfinished cpu (slice_index_or claims index no_claim).number (slice_index_or claims index no_claim).reply

-- a name's claim is there
abbrev pub HasClaim : ℕ → Named → Type 0
HasClaim count (named.Keep cpu number) = ⊤
HasClaim count (named.Unfinished cpu index) = index < count

abbrev pub lines_of : List Named → List Claim → List Line
lines_of names claims = map (line_of claims) names

-- The lines are a certificate, and each name's claim is there.
pub record IsHeld (names : List Named) (claims : List Claim) : Type 0 where
  pub is_certificate : IsCertificate (lines_of names claims)
  pub each_claim : AllByRecursion (HasClaim (length claims)) names
  pub few_claims : length claims ≤ length names

-- What contracts see of a certificate: its lines, and how many more lines, and replies of unfinished ones, are sure to take no memory.
pub record Claimed : Type 0 where
  pub lines : List Line
  pub line_room : ℕ
  pub reply_room : ℕ

-- the line takes no memory
abbrev pub HasRoomFor : Line → Claimed → Type 0
HasRoomFor (line.Keep cpu number) claimed = 1 ≤ claimed.line_room
HasRoomFor (line.Unfinished cpu number reply) claimed = (1 ≤ claimed.line_room) × (1 ≤ claimed.reply_room)
