-- HMAC-SHA-256 (RFC 2104, FIPS 198-1).
use Rattle.std.specs.Prelude.{◌≡◌, ℕ, ◌-◌, List, ◌++◌, length, map, replicate, bit_xor, nat_lt, if◌then◌else◌}
use Rattle.sha2.specs.Sha256.{sha256}
use Rattle.sha2.specs.Hashers.{Holds256}
use Rattle.proc_seal.specs.declared.hmac.Hmac.{Hmac}

-- the key, or its digest where it is longer than a block, filled up to a block with zeros
abbrev pub block_of : (key : List ℕ) → List ℕ
block_of key =
    let short = if nat_lt 64 (length key) then sha256 key else key in
    short ++ replicate (64 - length short) 0

abbrev pub inner_block : (key : List ℕ) → List ℕ
inner_block key = map (λ b. bit_xor b 0x36) (block_of key)

abbrev pub outer_block : (key : List ℕ) → List ℕ
outer_block key = map (λ b. bit_xor b 0x5c) (block_of key)

-- the code of a message under a key
abbrev pub hmac : (key message : List ℕ) → List ℕ
hmac key message = sha256 (outer_block key ++ sha256 (inner_block key ++ message))

-- it makes the codes under this key
pub record IsHmacOf (made : Hmac) (key : List ℕ) : Type 0 where
  pub inner : Holds256 made.inner (inner_block key)
  pub outer : Holds256 made.outer (outer_block key)
