-- Pages of bytes.
use Rattle.std.specs.Prelude.{ℕ}

-- how many bytes a page holds: `PAGE_LIMIT`
abbrev pub page_limit : ℕ
page_limit = 2048
