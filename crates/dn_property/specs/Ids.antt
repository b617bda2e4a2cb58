-- The ids of a zone's properties (MS-DNSP 2.3.2.1.1).
use Rattle.std.specs.Prelude.{ℕ}

-- whether the zone is a cache, primary, secondary, stub or forwarder
abbrev pub ZONE_TYPE : ℕ
ZONE_TYPE = 0x01

-- which dynamic updates the zone takes
abbrev pub ALLOW_UPDATE : ℕ
ALLOW_UPDATE = 0x02

-- when the zone was made secure
abbrev pub SECURE_TIME : ℕ
SECURE_TIME = 0x08

-- for how many hours after its time stamp a record isn't refreshed
abbrev pub NOREFRESH_INTERVAL : ℕ
NOREFRESH_INTERVAL = 0x10

-- which servers remove stale records
abbrev pub SCAVENGING_SERVERS : ℕ
SCAVENGING_SERVERS = 0x11

-- from which hour on stale records are removed
abbrev pub AGING_ENABLED_TIME : ℕ
AGING_ENABLED_TIME = 0x12

-- for how many hours after the interval without refresh a record may be refreshed before it is stale
abbrev pub REFRESH_INTERVAL : ℕ
REFRESH_INTERVAL = 0x20

-- whether records age
abbrev pub AGING_STATE : ℕ
AGING_STATE = 0x40

-- on which server the zone was deleted
abbrev pub DELETED_FROM_HOSTNAME : ℕ
DELETED_FROM_HOSTNAME = 0x80

-- from which servers the zone is transferred
abbrev pub MASTER_SERVERS : ℕ
MASTER_SERVERS = 0x81

-- which servers may add themselves as name servers
abbrev pub AUTO_NS_SERVERS : ℕ
AUTO_NS_SERVERS = 0x82

-- how the zone is converted when its server becomes a domain controller
abbrev pub DCPROMO_CONVERT : ℕ
DCPROMO_CONVERT = 0x83

-- flags of the zone's nodes
abbrev pub NODE_DBFLAGS : ℕ
NODE_DBFLAGS = 0x100
